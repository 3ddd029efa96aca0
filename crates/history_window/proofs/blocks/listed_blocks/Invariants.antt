use Rattle.history_window.specs.Reaches.{AreBlocksBelow}
use Rattle.history_window.proofs.blocks.listed_blocks.Given as goal

-- those of the calls so far are listed
abbrev pub invariant-loop-index : goal.invariant-loop-index
invariant-loop-index l = AreBlocksBelow l.tables.codes.now l.index l.peaks.items
