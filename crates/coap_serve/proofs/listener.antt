-- Lemmas on runs: on the parts of a turn, on connections that sleep, and on a service.
pub mod EntryLemmas
pub mod PeerLemmas
pub mod SleepLemmas
pub mod RoundLemmas
pub mod PassedLemmas
pub mod ServingLemmas
pub mod RunLemmas
pub mod ConfigLemmas
