-- What other crates may cite of the lemmas here.
pub mod Numbers
pub mod Returning
