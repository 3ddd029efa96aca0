-- What other crates may cite of the lemmas here.
pub mod Readings
pub mod SendLaws
pub mod StoreLaws
pub mod TraceLaws
