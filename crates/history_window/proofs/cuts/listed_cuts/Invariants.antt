use Rattle.history_window.specs.Cuts.{AreCutTurns}
use Rattle.history_window.proofs.cuts.listed_cuts.Given as goal

-- the turns of the cuts so far are listed
abbrev pub invariant-loop-index : goal.invariant-loop-index
invariant-loop-index l = AreCutTurns l.tables.codes.now l.bound l.index l.turns.items
