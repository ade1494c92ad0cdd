pub mod script
pub mod Prelude
