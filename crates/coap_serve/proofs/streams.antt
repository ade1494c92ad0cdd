-- Lemmas on runs of `serve_one`: on flushes, pieces and calls.
pub mod CallLemmas
pub mod FlushLemmas
pub mod TakeLemmas
pub mod RunLemmas
