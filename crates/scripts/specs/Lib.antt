pub mod Own
pub mod Replies
pub mod Script
pub mod Reading
pub mod Faults
