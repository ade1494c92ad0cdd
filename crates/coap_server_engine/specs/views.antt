-- The values that contracts see for servers and output lines, and the invariant of `Server`.
pub mod ServerViews
pub mod LineViews
