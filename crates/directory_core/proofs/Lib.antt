pub mod PathLemmas
pub mod AttributeLemmas
pub mod EndpointLemmas
pub mod LinkFormatLemmas
pub mod ReachedLemmas
pub mod LookupLemmas
pub mod TextLemmas
