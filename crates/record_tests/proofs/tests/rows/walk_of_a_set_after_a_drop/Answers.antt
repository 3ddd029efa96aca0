use Rattle.std.proofs.Common.{◌≢◌, sym, subst, ◌∙◌, ap, slice_get}
use Rattle.std.specs.Prelude.{Option, IfSome}
use Rattle.klog_index.specs.declared.entry.Entry.{Entry}
use Rattle.klog_index.specs.Entries.{Entries, of_set}
use Rattle.record_tests.proofs.RowLaws.{met_of_set}
use Rattle.record_tests.proofs.tests.rows.walk_of_a_set_after_a_drop.Goals as goal

pub returns : goal.returns
returns c =
    subst (λ (o : Option Entry). IfSome o (λ e. e.place ≢ c.args.place))
    (sym (c.of_set.ensures ∙ ap (λ (x : Entries). slice_get (of_set c.args.set x.entries) c.args.skip) c.drop_at.ensures))
    (met_of_set c.args.place c.args.set c.args.skip c.args.index.now.entries)
