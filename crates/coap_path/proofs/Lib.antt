pub mod PathLemmas
mod FillLemmas
mod PlaceLemmas
pub mod MatchLemmas
mod Worked
pub mod PathStartLemmas
pub mod LongestLemmas
mod LawLemmas
mod AddLemmas
