use Rattle.std.specs.Option.{option_map}
use Rattle.scripts.specs.Own.{seen_of}
use Rattle.scripts.proofs.Session.{Ran}
use Rattle.scripts.proofs.script.run_script_with_hasher.Given as goal

abbrev pub invariant-loop-number : goal.invariant-loop-number
invariant-loop-number g l =
    Ran g.row.PAGE (g.R.Read.remaining l.fn.reader) (g.R.Read.remaining l.reader) l.ahead (g.W.Write.contents l.fn.writer) (g.W.Write.contents l.writer) l.number (option_map seen_of l.lane)
