pub mod Unknown
pub mod Spans
pub mod Panel
pub mod Climate
pub mod Why
