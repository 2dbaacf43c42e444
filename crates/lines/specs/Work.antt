pub mod Put
pub mod Tried
pub mod Values
pub mod Pairs
