pub mod Places
pub mod Delays
pub mod Turns
pub mod Following
pub mod Runs
pub mod Laws
