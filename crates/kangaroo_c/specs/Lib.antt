pub mod Held
pub mod Telling
pub mod Turning
pub mod Sizing
pub mod Lent
