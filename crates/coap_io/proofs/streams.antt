-- Lemmas on calls one after another, on writes, and on bytes read but not accepted yet.
pub mod DeviceLemmas
pub mod WriteLemmas
pub mod ReadBufferLemmas
