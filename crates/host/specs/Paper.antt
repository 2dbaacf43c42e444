pub mod Version
pub mod Answers
pub mod Panel
pub mod Kind
pub mod Why
