pub mod Abnf
pub mod Json
pub mod Names
pub mod Members
pub mod Faults
