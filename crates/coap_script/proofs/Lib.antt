pub mod scripting
