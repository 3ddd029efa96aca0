pub mod Devices
pub mod Calls
pub mod Ends
pub mod Runs
pub mod Summaries
pub mod Wholes
pub mod Fitting
