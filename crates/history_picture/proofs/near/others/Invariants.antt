use Rattle.history_picture.specs.Nearest.{AreOthers}
use Rattle.history_picture.proofs.near.others.Given as goal

abbrev pub invariant-loop-position : goal.invariant-loop-position
invariant-loop-position l = AreOthers l.history l.key l.without l.position l.others.items
