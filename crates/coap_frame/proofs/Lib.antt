pub mod FillLemmas
pub mod FramingLemmas
pub mod RaiseLemmas
pub mod GivenLaws
pub mod FoundLemmas
pub mod CopyingLaws
pub mod FrontLaws
