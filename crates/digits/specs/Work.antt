pub mod Hex
pub mod Decimal
