pub mod Homiq
