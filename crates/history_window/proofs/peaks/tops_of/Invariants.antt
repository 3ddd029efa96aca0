use Rattle.history_window.specs.Peaks.{AreTops, IsTopBelow}
use Rattle.history_window.proofs.peaks.tops_of.Given as goal

-- the greatest height so far is known, and each before it
abbrev pub invariant-loop-index : goal.invariant-loop-index
invariant-loop-index l = record { top : IsTopBelow l.peaks l.index l.top; tops : AreTops l.peaks l.index l.tops.items }
