pub mod Limits
pub mod Times
pub mod Writers
pub mod Logs
pub mod Taps
pub mod TapViews
pub mod Glimpses
pub mod Connections
