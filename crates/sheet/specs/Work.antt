pub mod Carried
pub mod Lines
pub mod Maps
pub mod Pairs
