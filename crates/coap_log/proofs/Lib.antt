pub mod LimitLaws
pub mod TimeLemmas
pub mod WriterLemmas
pub mod LogLemmas
pub mod TapLemmas
pub mod TapLaws
pub mod ConnectionLemmas
