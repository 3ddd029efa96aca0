-- What other crates may cite of the lemmas here.
pub mod MovingLaws
pub mod NotesLaws
pub mod ShownLaws
