pub mod Texts
pub mod Lines
pub mod Names
pub mod Levels
pub mod Descriptions
