pub mod CommandLine
pub mod Endings
pub mod Outcomes
