mod Copying
mod Fitting
mod StepCounts
mod Stepping
mod Tending
mod Writing
pub mod public_laws
