pub mod Laws
pub mod Unique
pub mod Demand
pub mod Theorems
pub mod Known
