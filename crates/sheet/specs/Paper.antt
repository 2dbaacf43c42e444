pub mod Sheet
pub mod Map
pub mod Split
pub mod Fault
pub mod Answers
