-- Lemmas on the effects and lines of script events, and on scripts that divide their input differently.
pub mod ShownLemmas
pub mod FollowLemmas
pub mod ReplayLemmas
pub mod CutScripts
