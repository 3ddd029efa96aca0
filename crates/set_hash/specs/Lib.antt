pub mod Fnv
pub mod Place
