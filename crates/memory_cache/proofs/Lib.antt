mod Finding
mod Ordering
mod KeepingLaws
mod Leaving
