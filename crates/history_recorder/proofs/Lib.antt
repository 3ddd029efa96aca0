mod DonesIn
mod Firsts
mod Starts
mod Listings
mod SetEnd
mod Counted
mod Booking
mod Gaming
mod GameKept
mod Acting
mod EventsPlayed
mod LanesPlayed
mod Ended
mod WorldsOpened
mod LanesRun
mod RunsKept
pub mod public_laws
