-- A store without a condition.
use Rattle.item_lane.proofs.storing.set.Goals as goal

pub follow-requires : goal.follow-requires
follow-requires g c = assumption
