pub mod Got
pub mod Rows
pub mod Draft
pub mod Homiq
pub mod Lacks
