-- The numbers of a load, in the order of its settings.
use Rattle.std.specs.Prelude.{◌≡◌, ℕ, List, [], ◌∷◌, slice_index}
use Rattle.record_pages.specs.declared.layout.Layout.{Layout}
use Rattle.load.specs.declared.load.Load.{Load}
use Rattle.load.specs.declared.serve_load.ServeLoad.{ServeLoad}

-- the cache has the first eight of these numbers
pub record IsLayoutOf (layout : Layout) (numbers : List ℕ) : Type 0 where
  pub lanes : layout.lanes ≡ slice_index numbers 0
  pub sets : layout.sets ≡ slice_index numbers 1
  pub memory : layout.memory ≡ slice_index numbers 2
  pub segments : layout.segments ≡ slice_index numbers 3
  pub segment_pages : layout.segment_pages ≡ slice_index numbers 4
  pub entries : layout.entries ≡ slice_index numbers 5
  pub threshold : layout.threshold ≡ slice_index numbers 6
  pub admit : layout.admit ≡ slice_index numbers 7

-- the numbers of a cache, with these after them
abbrev pub with_layout : Layout → List ℕ → List ℕ
with_layout layout numbers =
    layout.lanes ∷ layout.sets ∷ layout.memory ∷ layout.segments ∷ layout.segment_pages ∷ layout.entries ∷ layout.threshold ∷ layout.admit ∷ numbers

-- the numbers of a run, one for each of its settings
abbrev pub numbers_of : Load → List ℕ
numbers_of load =
    with_layout load.layout (load.callers ∷ load.operations ∷ load.keys ∷ load.value_bytes ∷ load.gets ∷ load.removes ∷ load.workers ∷ load.seed ∷ load.ttl ∷ [])

-- the numbers of a load of a cache that serves, one for each of its settings
abbrev pub served_numbers_of : ServeLoad → List ℕ
served_numbers_of load =
    with_layout load.layout (load.callers ∷ load.operations ∷ load.keys ∷ load.value_bytes ∷ load.gets ∷ load.removes ∷ load.workers ∷ load.seed ∷ load.ttl ∷ load.shards ∷ load.leases ∷ load.bring_back ∷ load.seconds ∷ [])
