-- What other crates may cite of the lemmas here.
pub mod Beginning
pub mod FlightLists
pub mod Keeping
pub mod Listing
pub mod PutBackLaws
pub mod Showing
pub mod StepLaws
pub mod WholeLaws
