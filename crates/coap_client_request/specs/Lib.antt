pub mod Targets
pub mod TargetViews
pub mod Requests
pub mod RequestViews
pub mod Prelude
