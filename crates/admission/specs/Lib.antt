pub mod Chance
pub mod Threshold
