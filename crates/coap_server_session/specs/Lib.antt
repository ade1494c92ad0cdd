pub mod values
pub mod views
pub mod Prelude
