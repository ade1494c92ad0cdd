mod TargetLemmas
mod GetLemmas
pub mod RequestLemmas
pub mod CheckedLemmas
pub mod OptionScanLemmas
pub mod CatalogueLemmas
pub mod ListingLemmas
pub mod StoreLemmas
pub mod VersionLaws
pub mod AnswerLaws
mod AnswerLemmas
pub mod ChangeLaws
pub mod ServingLaws
pub mod RefusalLemmas
pub mod StateLemmas
pub mod NotificationLaws
pub mod RememberingLaws
pub mod WatchLaws
pub mod HoldLaws
pub mod ApplicationLaws
pub mod ConditionLaws
pub mod WithoutConditionsLaws
mod EntryLemmas
mod MoveLemmas
pub mod EscapeLemmas
pub mod LinkLemmas
