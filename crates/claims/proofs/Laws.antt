pub mod Forms
pub mod Keeps
