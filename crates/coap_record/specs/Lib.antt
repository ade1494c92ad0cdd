pub mod RecordLines
pub mod SaidEvents
pub mod Writes
pub mod Records
pub mod Replays
pub mod Prelude
