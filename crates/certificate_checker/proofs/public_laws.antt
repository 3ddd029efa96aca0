-- What other crates may cite of the lemmas here.
pub mod Accepting
pub mod Growing
pub mod Judging
pub mod LaneEnds
pub mod LaneLemmas
pub mod LatestLemmas
pub mod Laying
pub mod Layouts
pub mod Listing
pub mod Lookups
