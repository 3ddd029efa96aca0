pub mod Weights
pub mod Holding
