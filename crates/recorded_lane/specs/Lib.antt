pub mod Answering
pub mod Lane
pub mod Laws
pub mod Points
