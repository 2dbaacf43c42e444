pub mod Raw
pub mod Text
pub mod Exact
pub mod ByteValues
pub mod Single
pub mod Panel
pub mod Answers
