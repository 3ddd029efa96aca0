mod KeepLaws
mod PieceLaws
mod WritingLaws
mod NameLaws
mod LineLaws
mod CodingLaws
mod WordTexts
mod LineTexts
mod ReadBack
mod Saying
pub mod public_laws
