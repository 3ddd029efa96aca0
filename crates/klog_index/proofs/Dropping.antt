-- The rows of a kind, dropped one after another.
use Rattle.std.proofs.Common.{◌≡◌, ◌<◌, Bool, true, Some, None, length, not, sym, ap, subst, ◌∙◌}
use Rattle.std.proofs.lemmas.List.Kept.{AllPairs-filter}
use Rattle.std.specs.Prelude.{◌==◌}
use Rattle.entry_pool.specs.declared.row.Row.{Row}
use Rattle.entry_pool.specs.Chains.{IsDistinct}
use Rattle.entry_pool.specs.Rows.{Rows, numbers, with_rows, without_at, IsHeld}
use Rattle.klog_index.specs.declared.entry.Entry.{Entry}
use Rattle.klog_index.specs.Entries.{Entries, with_entries, without}
use Rattle.klog_index.specs.Rows.{entry_of, entries_of, index_of, RowsApart, row_of}
use Rattle.klog_index.proofs.public_laws.RowLaws.{LieApart, IsRow, found-row, drop-found, drop-row, keep-all, fewer}

-- what is not of the kind is as it was
pub record IsDropping (p : Entry → Bool) (old : Entries) (pool : Rows) : Type 0 where
  pub sets : pool.sets ≡ old.sets
  pub limit : pool.limit ≡ old.limit
  pub kept : without p (entries_of pool.rows) ≡ without p old.entries
  pub apart : RowsApart pool.rows

pub dropping-none : (p : Entry → Bool) (old : Entries) (pool : Rows) → index_of pool ≡ old → RowsApart pool.rows → IsDropping p old pool
dropping-none p old pool is apart =
    record { sets = ap (λ (x : Entries). x.sets) is; limit = ap (λ (x : Entries). x.limit) is; kept = ap (λ (x : Entries). without p x.entries) is; apart = apart }

pub dropping-held : (p : Entry → Bool) (pool : Rows) (r : Row) → Some r ≡ row_of p pool.rows → IsHeld r.at pool.rows
dropping-held p pool r found = (found-row p pool.rows r (sym found)).1

pub dropping-step : (p : Entry → Bool) (old : Entries) (pool new : Rows) (r : Row) → IsDropping p old pool → IsDistinct (numbers pool.rows) → Some r ≡ row_of p pool.rows → new ≡ with_rows pool (without_at r.at pool.rows) → IsDropping p old new
dropping-step p old pool new r now apart found is =
    subst (λ (x : Rows). IsDropping p old x) (sym is) (record {
      sets = now.sets;
      limit = now.limit;
      kept = drop-found p pool.rows r apart (sym found) ∙ now.kept;
      apart = AllPairs-filter LieApart (λ (x : Row). not (x.at == r.at)) pool.rows now.apart;
    })

-- the same of a row of the kind that a walk came to
pub dropping-at : (p : Entry → Bool) (old : Entries) (pool new : Rows) (r : Row) → IsDropping p old pool → p (entry_of r.item) ≡ true → IsRow r pool.rows → IsDistinct (numbers pool.rows) → new ≡ with_rows pool (without_at r.at pool.rows) → IsDropping p old new
dropping-at p old pool new r now its listed apart is =
    subst (λ (x : Rows). IsDropping p old x) (sym is) (record {
      sets = now.sets;
      limit = now.limit;
      kept = drop-row p pool.rows r apart listed its ∙ now.kept;
      apart = AllPairs-filter LieApart (λ (x : Row). not (x.at == r.at)) pool.rows now.apart;
    })

pub dropping-fewer : (p : Entry → Bool) (pool new : Rows) (r : Row) → Some r ≡ row_of p pool.rows → new ≡ with_rows pool (without_at r.at pool.rows) → length new.rows < length pool.rows
dropping-fewer p pool new r found is =
    subst (λ (x : Rows). length x.rows < length pool.rows) (sym is) (fewer r.at pool.rows (dropping-held p pool r found))

pub dropping-end : (p : Entry → Bool) (old : Entries) (pool : Rows) → IsDropping p old pool → None ≡ row_of p pool.rows → index_of pool ≡ with_entries old (without p old.entries)
dropping-end p old pool now none =
    let left : entries_of pool.rows ≡ without p old.entries = sym (keep-all p pool.rows (sym none)) ∙ now.kept in
    λ i. record { sets = now.sets i; limit = now.limit i; entries = left i }
