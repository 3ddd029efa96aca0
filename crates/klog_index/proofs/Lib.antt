mod Dropping
mod Lowering
mod Walking
pub mod public_laws
