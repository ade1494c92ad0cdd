pub mod ClientSteps
pub mod ClientReached
pub mod ClientShown
pub mod TakingLemmas
pub mod TakeLemmas
pub mod LimitLaws
pub mod CutLaws
pub mod TokenLaws
pub mod ForgetLaws
pub mod HandledLaws
pub mod FitLaws
pub mod RunTraceLaws
pub mod RunLemmas
mod LineRules
