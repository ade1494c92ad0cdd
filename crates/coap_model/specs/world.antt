-- The server model: one connection, all connections, events with their steps, and the definitions that theorems name.
pub mod Observers
pub mod Connections
pub mod World
pub mod Responses
pub mod Events
pub mod View
pub mod Handling
pub mod LastNotification
pub mod Custody
pub mod RefusedTake
pub mod EndOfInput
pub mod PongOrder
pub mod ViewEvents
pub mod Fates
