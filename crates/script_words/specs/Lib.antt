pub mod Lines
pub mod Words
pub mod Commands
pub mod Configs
