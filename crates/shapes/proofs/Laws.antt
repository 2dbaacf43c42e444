pub mod Rows
pub mod Picked
