pub mod OptionLemmas
pub mod world
pub mod streams
