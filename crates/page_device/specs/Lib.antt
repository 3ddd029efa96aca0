pub mod Device
pub mod Frames
pub mod Fuse
pub mod Lending
pub mod Counting
