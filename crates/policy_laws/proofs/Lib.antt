mod OrderLaws
mod ListLaws
mod SortLaws
mod FittingLaws
pub mod public_laws
