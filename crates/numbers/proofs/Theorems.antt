pub mod Text
pub mod ByteValues
pub mod Single
