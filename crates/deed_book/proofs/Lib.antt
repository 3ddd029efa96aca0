mod Beginnings
mod Adding
mod Stepping
