pub mod Puts
pub mod Wrote
pub mod Right
pub mod Sizes
pub mod Spelt
pub mod Figures
