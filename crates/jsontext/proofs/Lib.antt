pub mod Laws
pub mod Theorems
pub mod Known
pub mod Unique
