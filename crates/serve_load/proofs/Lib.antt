mod Repeating
mod Refilling
mod Making
mod Adding
mod Rows
mod Sampling
mod Saying
mod Leasing
