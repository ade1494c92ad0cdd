-- Runs of `serve_door`: histories, progress, turns, silent connections, and the definition of a
-- run.
pub mod Histories
pub mod Turns
pub mod Sleepers
pub mod Serving
pub mod Silence
pub mod Run
