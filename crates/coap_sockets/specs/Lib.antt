pub mod IoResults
pub mod Ready
pub mod Durations
pub mod ListenFaults
pub mod Troubles
pub mod Woken
