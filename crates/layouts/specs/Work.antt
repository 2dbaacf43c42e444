pub mod Heads
pub mod Recogniser
pub mod Nikobus
pub mod Nest
pub mod Nibe
pub mod Homiq
