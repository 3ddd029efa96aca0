use Rattle.std.proofs.Common.{◌≡◌, replicate}
use Rattle.kset.specs.Notes.{no_notes}
use Rattle.kset.proofs.set_table.SetTable.open.Given as goal

abbrev pub invariant-loop : goal.invariant-loop
invariant-loop l = l.notes.items ≡ replicate l.counter no_notes
