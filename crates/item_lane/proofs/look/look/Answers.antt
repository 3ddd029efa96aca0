-- A lane is asked for a key.
use Rattle.item_lane.proofs.KeyLaws.{no_key}
use Rattle.item_lane.proofs.look.look.Goals as goal

pub get-requires : goal.get-requires
get-requires g c = assumption

pub unreachable-requires : goal.unreachable-requires
unreachable-requires g c = let why = c.in-Err.ensures in no_key c.args.key.now c.in-Err.field-0 why.empty why.too_long why.memory c.requires
