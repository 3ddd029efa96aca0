pub mod Another
pub mod SetOwner
pub mod SetRows
pub mod LogOwner
pub mod Telling
