-- Defined by this project: the value of a `ReadBuffer` in contracts.
pub mod ReadBufferViews
