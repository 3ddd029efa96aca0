-- What a verdict does to the lane is done by the calls of it.
use Rattle.item_lane.proofs.follow.follow.Goals as goal

pub store-requires : goal.store-requires
store-requires g c = assumption

pub remove-requires : goal.remove-requires
remove-requires g c = assumption
