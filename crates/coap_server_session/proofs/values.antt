-- Lemmas on the effect of each function of a session on the values that the session holds.
pub mod ResponseLemmas
pub mod SettleLemmas
pub mod EntryLemmas
pub mod MarkLemmas
pub mod TagLemmas
pub mod AnsweringLemmas
pub mod SessionLemmas
pub mod SplitLemmas
pub mod TakenLemmas
pub mod DueLemmas
pub mod CauseLemmas
pub mod FlagLemmas
pub mod ChainLemmas
pub mod ConcernLemmas
