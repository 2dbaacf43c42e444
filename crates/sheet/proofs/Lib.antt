pub mod Laws
pub mod Theorems
pub mod Unique
pub mod Known
