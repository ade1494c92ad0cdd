pub mod Characters
pub mod Links
pub mod Reading
pub mod LinkViews
pub mod Prelude
