pub mod Laws
pub mod Rank
pub mod Fifo
