pub mod Faults
pub mod FilePages
pub mod Files
