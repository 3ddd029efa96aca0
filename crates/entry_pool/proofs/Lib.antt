mod ChainLaws
mod PoolLaws
mod Moves
mod LinkLaws
mod Written
mod Sound
mod Settled
mod Marks
mod FreshLaws
mod ChainMoves
mod StrikeMoves
mod StrikeFresh
mod StrikeSearch
mod StrikeSets
pub mod public_laws
