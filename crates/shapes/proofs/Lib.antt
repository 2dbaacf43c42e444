pub mod Laws
pub mod Known
pub mod Unique
