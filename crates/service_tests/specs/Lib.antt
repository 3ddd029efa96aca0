pub mod Standing
pub mod Seen
