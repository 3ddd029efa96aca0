use Rattle.std.proofs.Common.{List, ap, ◌∙◌}
use Rattle.entry_pool.specs.declared.row.Row.{Row}
use Rattle.entry_pool.proofs.public_laws.BackLaws.{map-reverse}
use Rattle.klog_index.specs.declared.entry.Entry.{Entry}
use Rattle.klog_index.specs.Entries.{Entries}
use Rattle.klog_index.specs.First.{first_but, oldest_but}
use Rattle.klog_index.specs.Rows.{entries_of, entry_of}
use Rattle.klog_index.proofs.index.LogIndex.oldest_but.Goals as goal

pub loop-row-init : goal.loop-row-init
loop-row-init c =
    let segment = c.args.segment in
    let sets = c.args.sets.now in
    ap (λ (rows : List Row). first_but segment sets (entries_of rows)) c.from_oldest-left.ensures
    ∙ ap (λ (es : List Entry). first_but segment sets es) (map-reverse (λ (r : Row). entry_of r.item) c.self.inside.pool.rows)
    ∙ ap (λ (x : Entries). oldest_but segment sets x.entries) c.self.view_is
