pub mod Cells
pub mod Live
pub mod Plans
pub mod Numbers
pub mod Choosing
pub mod Meta
pub mod Doing
