pub mod Content
pub mod Homiq
pub mod Look
pub mod Answers
pub mod Nikobus
