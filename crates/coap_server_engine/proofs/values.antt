-- Lemmas on the effect of each function of the server on the values that the server holds.
pub mod ServerLemmas
pub mod ChangedLemmas
pub mod ResponseLemmas
pub mod ServingLemmas
pub mod RoomLemmas
pub mod IndexSetLemmas
pub mod ConcernedLemmas
pub mod WorkLemmas
