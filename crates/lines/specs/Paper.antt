pub mod Line
pub mod WithSheet
pub mod Answers
