mod Choices
mod Numerals
mod FirstLine
mod Taken
pub mod public_laws
