-- Scripts: the values of words, the events of lines, the meaning of a text, output lines, and the values of Rust types.
pub mod Words
pub mod Events
pub mod Script
pub mod EventViews
pub mod Lines
