-- A place whose entry was dropped is free.
use Rattle.std.proofs.Common.{sym, subst}
use Rattle.klog_index.specs.Entries.{Entries, IsFree}
use Rattle.record_tests.proofs.RowLaws.{free_without}
use Rattle.record_tests.proofs.tests.parts.index.enters.Goals as goal

pub add-requires-clause-free : goal.add-requires-clause-free
add-requires-clause-free c =
    subst (λ (x : Entries). IsFree c.args.place x.entries) (sym c.drop_at.ensures) (free_without c.args.place c.args.index.now.entries)
