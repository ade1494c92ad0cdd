pub mod streams
pub mod listener
