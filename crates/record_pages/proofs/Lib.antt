mod FrontLaws
mod RecordLaws
mod MakingLaws
mod AfterLaws
mod WalkLaws
pub mod public_laws
