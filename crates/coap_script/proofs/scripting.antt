-- Lemmas on the words and lines of scripts.
pub mod WordLemmas
pub mod ScriptLemmas
pub mod LineLemmas
