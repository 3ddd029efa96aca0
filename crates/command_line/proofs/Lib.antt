mod FoundLaws
mod Refusals
mod CommandLaws
mod AskedFiles
mod CallNumbers
