-- An index as the rows of its pool.
use Rattle.std.specs.Prelude.{◌≢◌, Bool, List, map, filter, AllPairs, Option, slice_get}
use Rattle.entry_pool.specs.declared.pool_item.PoolItem.{PoolItem}
use Rattle.entry_pool.specs.declared.row.Row.{Row}
use Rattle.entry_pool.specs.Rows.{Rows}
use Rattle.klog_index.specs.declared.entry.Entry.{Entry}
use Rattle.klog_index.specs.Entries.{Entries}

-- the entry that an item notes
abbrev pub entry_of : PoolItem → Entry
entry_of item =
    record {
      set = item.set;
      tag = item.tag;
      place = record { segment = item.segment; page = item.page; slot = item.slot };
      prediction = item.prediction;
    }

-- the entries of rows
abbrev pub entries_of : List Row → List Entry
entries_of rows = map (λ r. entry_of r.item) rows

-- a pool as an index
abbrev pub index_of : Rows → Entries
index_of pool = record { sets = pool.sets; limit = pool.limit; entries = entries_of pool.rows }

-- no two rows lie at one place
abbrev pub RowsApart : List Row → Type 0
RowsApart rows = AllPairs (λ a b. (entry_of a.item).place ≢ (entry_of b.item).place) rows

-- the first row of a kind of entry, if there is one
abbrev pub row_of : (Entry → Bool) → List Row → Option Row
row_of p rows = slice_get (filter (λ r. p (entry_of r.item)) rows) 0
