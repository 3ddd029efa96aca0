-- A store by a mode, with a condition or without.
use Rattle.item_lane.proofs.meta_storing.meta_set.Goals as goal

pub set-requires : goal.set-requires
set-requires g c = assumption

pub store_if-requires : goal.store_if-requires
store_if-requires g c = assumption
