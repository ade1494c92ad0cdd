pub mod values
pub mod world
pub mod scripting
