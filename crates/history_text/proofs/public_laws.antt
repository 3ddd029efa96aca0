-- What other crates may cite of the lemmas here.
pub mod Going
