use Rattle.std.proofs.Common.{List, ap, ◌∙◌}
use Rattle.entry_pool.specs.declared.row.Row.{Row}
use Rattle.klog_index.specs.Entries.{Entries, of_set}
use Rattle.klog_index.specs.Rows.{entries_of}
use Rattle.klog_index.proofs.public_laws.RowLaws.{entries-in-set}
use Rattle.klog_index.proofs.index.LogIndex.entries_of.Goals as goal

pub returns : goal.returns
returns c =
    c.entries_in.ensures
    ∙ ap (λ (rs : List Row). entries_of rs) c.in_set.ensures
    ∙ entries-in-set c.args.set c.self.inside.pool.rows
    ∙ ap (λ (x : Entries). of_set c.args.set x.entries) c.self.view_is
