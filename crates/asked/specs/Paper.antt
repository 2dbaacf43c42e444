pub mod Field
pub mod Means
pub mod Line
pub mod Answers
pub mod Lacks
