pub mod Inputs
pub mod Remaining
pub mod One
pub mod Sizes
pub mod Skipped
pub mod Some
pub mod Turns
pub mod Written
