-- The values that contracts see for configurations.
pub mod ConfigViews
