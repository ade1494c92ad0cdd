pub mod Slots
pub mod Values
pub mod Handles
