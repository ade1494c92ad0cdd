pub mod streams
mod Worked
