mod Passing
mod Deciding
pub mod public_laws
