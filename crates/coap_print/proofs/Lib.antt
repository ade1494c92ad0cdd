pub mod TextLaws
pub mod LineLaws
pub mod EscapeLaws
