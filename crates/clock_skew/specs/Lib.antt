pub mod Laws
pub mod Skewed
pub mod Widening
