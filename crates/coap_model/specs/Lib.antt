pub mod Configs
pub mod Answers
pub mod views
pub mod world
pub mod streams
pub mod Prelude
