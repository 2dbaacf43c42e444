pub mod Laws
pub mod Unique
pub mod Theorems
pub mod Known
