mod Countings
mod DropLaws
mod Extending
mod Formats
mod ItemFormats
mod Meetings
mod NumberLemmas
mod ReaderLaws
mod Standings
mod Takings
mod ToldApart
pub mod public_laws
