pub mod Frames
pub mod Seek
