pub mod Book
pub mod Answers
