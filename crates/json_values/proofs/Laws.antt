pub mod Spelt
pub mod Raws
pub mod Sizes
pub mod Tokens
