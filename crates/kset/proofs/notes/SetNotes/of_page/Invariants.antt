use Rattle.std.proofs.Common.{◌≡◌}
use Rattle.kset.proofs.PageNotes.{with_all}
use Rattle.kset.proofs.notes.SetNotes.of_page.Given as goal

abbrev pub invariant-loop-lent : goal.invariant-loop-lent
invariant-loop-lent l = with_all l.notes l.lent-iterator ≡ with_all l.initial.notes l.initial.lent-iterator
