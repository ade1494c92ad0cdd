-- Runs of `serve_one`: their calls and progress, and the definition of a run.
pub mod StdioRun
pub mod StdioCalls
pub mod StdioProgress
