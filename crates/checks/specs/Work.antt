pub mod Engines
pub mod Terms
