-- What other crates may cite of the lemmas here.
pub mod Sounding
pub mod Copying
