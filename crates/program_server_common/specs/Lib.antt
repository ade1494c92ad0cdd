pub mod Planned
pub mod Reasons
pub mod RecordHeaders
pub mod RecordEnds
pub mod Refusals
pub mod ConnectionEnds
