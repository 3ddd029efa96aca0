pub mod CallLines
pub mod Guarding
pub mod Pages
