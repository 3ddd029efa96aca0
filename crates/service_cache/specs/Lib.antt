pub mod Serving
pub mod Sorted
pub mod Calls
pub mod Held
pub mod Refusals
pub mod Seated
pub mod AtLanes
