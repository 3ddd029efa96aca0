pub mod Laws
pub mod Sketch
