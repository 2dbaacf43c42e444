pub mod Built
pub mod Bytes
pub mod Homiq
