mod WorkedLines
pub mod WordLaws
pub mod LineLaws
pub mod WriteLemmas
pub mod RecordLemmas
pub mod PartLaws
pub mod ReplayLaws
pub mod FileLaws
