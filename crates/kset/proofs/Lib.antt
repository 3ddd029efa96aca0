mod PageNotes
mod TableLaws
mod LookLaws
mod LocateLaws
mod RewriteLaws
mod VisibleLaws
pub mod public_laws
