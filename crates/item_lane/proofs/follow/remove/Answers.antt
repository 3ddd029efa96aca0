-- A removal is asked of the lane for a key.
use Rattle.item_lane.proofs.KeyLaws.{no_key}
use Rattle.item_lane.proofs.follow.remove.Goals as goal

pub remove-requires : goal.remove-requires
remove-requires g c = assumption

pub unreachable-requires : goal.unreachable-requires
unreachable-requires g c = let why = c.in-Err.ensures in no_key c.args.key.now c.in-Err.field-0 why.empty why.too_long why.memory c.requires
