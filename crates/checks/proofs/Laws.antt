pub mod Register
pub mod Numbers
pub mod Feed
pub mod Burst
pub mod Rotate
pub mod Unseen
