-- The output of a server with one connection, for the bytes of its input.
pub mod Output
