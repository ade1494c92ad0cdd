pub mod values
pub mod world
