pub mod Answers
pub mod Nikobus
pub mod Homiq
