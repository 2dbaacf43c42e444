pub mod Bits
pub mod Check
pub mod Buses
pub mod Xor
pub mod Stretch
pub mod Rules
