pub mod TargetLemmas
pub mod RequestLemmas
