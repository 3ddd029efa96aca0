-- A store with what was asked of it and answered: the names of the crate that has it, for all who see it through a lane.
pub use Rattle.deeds.specs.Asked.{Asked, AreCurrent, IsServed, IsMiss, IsLiveHit, TellsExpiry}
