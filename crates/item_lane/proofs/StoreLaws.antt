-- What a put of an item's cell, and a removal in its place, are to a command.
use Rattle.std.proofs.Common.{◌≡◌, ℕ, ◌<◌, List, Option, Result, Err, refl, ap, subst, ◌∙◌, inl, inr}
use Rattle.std.specs.Prelude.{◌↔◌, IsErrOf}
use Rattle.record_pages.specs.Expiry.{timed}
use Rattle.record_pages.specs.Sizes.{object_size, room}
use Rattle.record_pages.specs.declared.pushed.Pushed.{Pushed}
use Rattle.record_pages.specs.declared.put_fault.PutFault.{PutFault}
use Rattle.record_pages.specs.declared.put_fault.PutFault.TheVariants.{TooLarge, OutOfMemory}
use Rattle.memory_cache.specs.declared.pair.Pair.{Pair}
use Rattle.service_lane.specs.Counting.{counts_refused_put}
use Rattle.service_lane.specs.Serving.{Serving, PutsStore, Removes}
use Rattle.item_lane.specs.Cells.{Kept, cell_text, expires_of}
use Rattle.item_lane.specs.Doing.{IsTooLarge, Stores, Refuses}

-- the pair of these parts
abbrev pair_of : List ℕ → List ℕ → ℕ → Pair
pair_of key value expires = record { key = key; value = timed value expires }

module _ {D : Type 0} (size : ℕ) (held : D → ℕ → Option (List ℕ)) (key : List ℕ) (kept : Kept) (k v : List ℕ) (key_is : k ≡ key) (value_is : v ≡ cell_text kept) (old new : Serving D) where
  -- the lane put the cell
  pub stored : (word expires : ℕ) (pushed : Pushed) → expires ≡ expires_of kept.head → PutsStore size held (pair_of k v expires) word pushed old new → Stores size held key kept word old new
  stored word expires pushed expires_is puts = record {
    pushed = pushed;
    puts =
        subst (λ (p : Pair). PutsStore size held p word pushed old new)
        (ap (λ (a : List ℕ). pair_of a v expires) key_is ∙ ap (λ (b : List ℕ). pair_of key b expires) value_is ∙ ap (pair_of key (cell_text kept)) expires_is) puts;
  }

  -- the lane refused the cell, which is not too large, and removed the key
  pub refused_put : {A : Type 0} (fault : PutFault) → ¬ IsTooLarge size key kept → (IsErrOf {T = A} (Err fault) TooLarge ↔ (room size < object_size k v)) →
      Removes held k (record old { counts = counts_refused_put fault old.counts }) new → Refuses size held key kept old fault new
  refused_put TooLarge small large removes =
      absurd (small (inr (subst (λ (b : List ℕ). room size < object_size key b) value_is (subst (λ (a : List ℕ). room size < object_size a v) key_is (large.0 refl)))))
  refused_put OutOfMemory small large removes = (small, inr (subst (λ (a : List ℕ). Removes held a (record old { counts = counts_refused_put OutOfMemory old.counts }) new) key_is removes))

module _ {D : Type 0} (size : ℕ) (held : D → ℕ → Option (List ℕ)) (key : List ℕ) (kept : Kept) (old new : Serving D) where
  -- no cell was made, and the key was removed
  pub refused_cell : {A : Type 0} (fault : PutFault) → ((◌≡◌ {A = Result A PutFault} (Err fault) (Err TooLarge)) ↔ IsTooLarge size key kept) → Removes held key old new → Refuses size held key kept old fault new
  refused_cell TooLarge large removes = (large.0 refl, removes)
  refused_cell OutOfMemory large removes = (λ big. absurd (other (large.1 big)), inl removes)
    where
      other : {A : Type 0} → ◌≡◌ {A = Result A PutFault} (Err OutOfMemory) (Err TooLarge) → ⊥
      other e = absurd cc
