mod BitLaws
mod AgeingLaws
