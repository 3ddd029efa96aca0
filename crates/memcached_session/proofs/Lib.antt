pub mod Progress
pub mod Short
pub mod Fitting
pub mod Unnumbered
