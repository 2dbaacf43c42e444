pub mod Answers
pub mod Acknowledge
