mod BitLaws
pub mod public_laws
