mod InTurn
mod Kept
mod Points
mod Refused
mod Noting
pub mod public_laws
