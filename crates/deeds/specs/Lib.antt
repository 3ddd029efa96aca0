pub mod Sound
pub mod Asked
pub mod Trails
