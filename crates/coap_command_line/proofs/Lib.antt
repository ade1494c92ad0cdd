pub mod WordLemmas
pub mod TableLemmas
pub mod PlanLemmas
pub mod ReasonLemmas
pub mod ApplicationLemmas
