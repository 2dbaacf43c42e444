pub mod Listing
pub mod Answers
pub mod Skipped
