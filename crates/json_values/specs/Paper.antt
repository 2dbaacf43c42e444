pub mod Json
pub mod Decimals
