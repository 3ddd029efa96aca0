mod Remembering
mod Serves
pub mod public_laws
