-- The value of a server's connection: its calls, observers, responses, deadlines, and the changes that cannot affect
-- it.
pub mod Sessions
pub mod Entries
pub mod Deadlines
pub mod Causes
pub mod Responses
pub mod SessionAnswers
pub mod HandedRequests
