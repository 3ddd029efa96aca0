mod OwnHistory
mod Session
mod AheadLaws
mod Lanes
mod Opening
mod Seen
mod Full
