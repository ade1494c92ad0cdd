pub mod ShownLemmas
pub mod PrintedLemmas
pub mod MessageLemmas
pub mod ExplainLemmas
pub mod HeaderLemmas
pub mod RecordLemmas
pub mod OptionWalk
pub mod StatedLemmas
