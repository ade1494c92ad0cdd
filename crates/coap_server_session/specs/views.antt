-- The values that contracts see for observers and sessions, their invariants, and the value that represents a
-- connection of the model.
pub mod FlagViews
pub mod ChainViews
pub mod ObserverViews
pub mod SessionViews
pub mod SessionShows
