pub mod public_laws
