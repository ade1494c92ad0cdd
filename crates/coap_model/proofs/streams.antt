-- Lemmas on a flush, and on the output of a server with one connection.
pub mod FlushLaws
pub mod OutputLaws
