use Rattle.std.proofs.Common.{List, ap, ◌∙◌}
use Rattle.std.specs.Prelude.{◌==◌, slice_get}
use Rattle.entry_pool.specs.declared.row.Row.{Row}
use Rattle.klog_index.specs.Entries.{is_at}
use Rattle.klog_index.specs.Rows.{entry_of, row_of}
use Rattle.klog_index.proofs.public_laws.RowLaws.{filter-both}
use Rattle.klog_index.proofs.rows.row_in.Goals as goal

pub loop-row-init : goal.loop-row-init
loop-row-init c =
    ap (λ (rs : List Row). row_of (is_at c.args.place) rs) c.in_set-left.ensures
    ∙ ap (λ (rs : List Row). slice_get rs 0) (filter-both (λ (r : Row). r.item.set == c.args.set) (λ (r : Row). is_at c.args.place (entry_of r.item)) c.args.pool.now.rows)
