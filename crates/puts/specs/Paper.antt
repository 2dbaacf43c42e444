pub mod Put
pub mod Wrote
pub mod Right
