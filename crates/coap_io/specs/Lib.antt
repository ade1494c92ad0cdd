pub mod streams
pub mod views
pub mod Prelude
