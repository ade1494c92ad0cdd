pub mod QuotedLemmas
pub mod ReadingSteps
pub mod SoundLaws
pub mod AttributeSteps
pub mod LinkSteps
pub mod CompleteLaws
pub mod AttributeTextLaws
pub mod ParseLaws
