-- Scripts on a server: the effect and line of each event, the result of a replay, and scripts that divide their input
-- differently.
pub mod RequestLines
pub mod Replay
pub mod Shown
pub mod Replayed
pub mod Cuts
