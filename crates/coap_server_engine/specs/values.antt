-- The value of a server: its calls, whole inputs and flushes, the work left on connections, and the changes that cannot
-- affect them.
pub mod Servers
pub mod ServerAnswers
pub mod Flushes
pub mod InResults
pub mod ServerDeadlines
pub mod ServerCauses
pub mod IndexSets
pub mod ConcernSets
pub mod Calls
pub mod CallDetails
pub mod Faults
pub mod HandedRequests
pub mod ChangedRequests
pub mod Exchanges
pub mod ApplicationCalls
