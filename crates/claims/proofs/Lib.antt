pub mod Demands
pub mod Edges
pub mod Ids
pub mod Known
mod Laws
mod Occur
pub mod Table
pub mod Verdicts
