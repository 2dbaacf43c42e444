pub mod Units
pub mod Tight
pub mod Found
pub mod Names
pub mod Characters
pub mod Members
pub mod Faults
