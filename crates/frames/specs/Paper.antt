pub mod Kinds
pub mod Search
pub mod Runs
pub mod OneFrame
pub mod Demand
pub mod Why
