-- Lemmas: a connection of the server model and the session that represents it change in the same way.
pub mod KnownShown
pub mod EntryShown
pub mod SideShown
