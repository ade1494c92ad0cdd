-- The value of a server after a list of events.
pub mod Shows
pub mod RequestsShown
