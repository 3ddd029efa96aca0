pub mod Figures
pub mod Verdicts
