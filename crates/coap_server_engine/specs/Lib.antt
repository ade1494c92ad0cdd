pub mod values
pub mod world
pub mod script
pub mod views
pub mod Prelude
