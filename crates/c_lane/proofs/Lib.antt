mod Feeding
mod Getting
mod Putting
mod Tending
mod Opening
mod Sessions
