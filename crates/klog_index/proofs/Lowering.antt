-- A row found and lowered.
use Rattle.std.proofs.Common.{◌≡◌, ◌-◌, Bool, Some, None, List, sym, ap, subst, ◌∙◌}
use Rattle.entry_pool.specs.declared.row.Row.{Row}
use Rattle.entry_pool.specs.Chains.{IsDistinct}
use Rattle.entry_pool.specs.Rows.{Rows, numbers, with_rows, with_prediction_at}
use Rattle.klog_index.specs.declared.entry.Entry.{Entry}
use Rattle.klog_index.specs.declared.place.Place.{Place}
use Rattle.klog_index.specs.Entries.{Entries, with_entries, with_lowered}
use Rattle.klog_index.specs.Rows.{entries_of, index_of, RowsApart, row_of}
use Rattle.klog_index.proofs.public_laws.RowLaws.{IsKindOfPlace, lower-found, lower-none, apart-repredicted}

pub lowered-index : (p : Entry → Bool) (place : Place) (pool new : Rows) (r : Row) (old : Entries) → index_of pool ≡ old → IsKindOfPlace p place → IsDistinct (numbers pool.rows) → RowsApart pool.rows → Some r ≡ row_of p pool.rows → new ≡ with_rows pool (with_prediction_at r.at (r.item.prediction - 1) pool.rows) →
    index_of new ≡ with_entries old (with_lowered p old.entries)
lowered-index p place pool new r old view of apart places found is =
    let entries : entries_of (with_prediction_at r.at (r.item.prediction - 1) pool.rows) ≡ with_lowered p (entries_of pool.rows) = lower-found p place pool.rows r of apart places (sym found) in
    ap index_of is
    ∙ ap (λ (es : List Entry). with_entries (index_of pool) es) entries
    ∙ ap (λ (x : Entries). with_entries x (with_lowered p x.entries)) view

pub lowered-none : (p : Entry → Bool) (pool : Rows) (old : Entries) → index_of pool ≡ old → None ≡ row_of p pool.rows → old ≡ with_entries old (with_lowered p old.entries)
lowered-none p pool old view none =
    sym view
    ∙ ap (λ (es : List Entry). with_entries (index_of pool) es) (sym (lower-none p pool.rows (sym none)))
    ∙ ap (λ (x : Entries). with_entries x (with_lowered p x.entries)) view

pub lowered-apart : (pool new : Rows) (r : Row) → RowsApart pool.rows → new ≡ with_rows pool (with_prediction_at r.at (r.item.prediction - 1) pool.rows) → RowsApart new.rows
lowered-apart pool new r places is =
    subst (λ (x : Rows). RowsApart x.rows) (sym is) (apart-repredicted r.at (r.item.prediction - 1) pool.rows places)
