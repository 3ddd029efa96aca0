use Rattle.std.proofs.Common.{[], subst}
use Rattle.klog_index.specs.Entries.{Entries, is_of_any, without}
use Rattle.klog_index.specs.First.{FindsFirst}
use Rattle.record_tests.proofs.RowLaws.{met_of_all}
use Rattle.record_tests.proofs.tests.rows.walk_of_all_after_a_drop.Goals as goal

pub returns : goal.returns
returns c =
    met_of_all c.args.place c.args.place.segment [] c.args.index.now.entries c.first_of.result
    (subst (λ (x : Entries). FindsFirst c.args.place.segment (without (is_of_any []) x.entries) c.first_of.result) c.drop_at.ensures c.first_of.ensures)
