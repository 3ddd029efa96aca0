use Rattle.certificate_finder.specs.Lists.{AreAllBelow}
use Rattle.history_window.specs.Cuts.{StaysAt}
use Rattle.history_window.proofs.windowing.window_by.Given as goal

-- the calls so far that stay are listed
abbrev pub invariant-loop-index : goal.invariant-loop-index
invariant-loop-index l = AreAllBelow (StaysAt l.tables.codes.now l.cuts.bound) l.index l.kept.items
