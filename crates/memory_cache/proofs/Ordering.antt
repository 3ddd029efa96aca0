-- The order of the pairs after a get and after a put, and the pair that a put pushes out.
use Rattle.std.proofs.Common.{◌≡◌, ◌<◌, ◌≤◌, ◌-◌, ℕ, true, List, ◌∷◌, length, map, take, Option, Some, None, sym, ap, ◌∙◌, refl, arith, suc}
use Rattle.std.specs.Prelude.{slice_get, option_map, if◌then◌else◌}
use Rattle.std.specs.Option.{option_map_or}
use Rattle.std.specs.List.{IsDistinct}
use Rattle.std.specs.Map.{keys_of, lookup_entry, remove_entry}
use Rattle.std.specs.Str.{bytes_eq}
use Rattle.std.specs.Cmp.Lexicographic.{bytes_decides}
use Rattle.std.proofs.lemmas.List.{take-map, take_all, length-map}
use Rattle.std.proofs.lemmas.Option.{slice_get-map, slice_get_past}
use Rattle.lru.specs.LruCache.{LruCache, lru_cache, promoted, put_entries, displaced}
use Rattle.memory_cache.specs.declared.pair.Pair.{Pair}
use Rattle.memory_cache.specs.MemoryList.{holding, without, entered, to_front, to_front_by, after_get, after_put, pushed_out}
use Rattle.memory_cache.specs.Entries.{pair_of, memory_of, is_first}
use Rattle.memory_cache.proofs.Finding.{Entry, absent, found_key, one_fewer, other_at, pair_found, removed, value_of_entry, without_absent}
use Rattle.record_pages.specs.declared.timed_value.TimedValue.{TimedValue}

-- ---- a get

fronted_by : (key : List ℕ) (es : List Entry) (o : Option Entry) → IsDistinct bytes_eq (keys_of es) → lookup_entry (bytes_eq key) es ≡ o → map pair_of (option_map_or (λ e. e ∷ remove_entry (bytes_eq key) es) o es) ≡ to_front_by (option_map pair_of o) (map pair_of es)
fronted_by key es None distinct found = refl
fronted_by key es (Some e) distinct found =
    ap (λ ps. pair_of e ∷ ps) (removed key es distinct ∙ ap (λ k. without k (map pair_of es)) (sym (found_key key es e found)))

fronted : (key : List ℕ) (es : List Entry) → IsDistinct bytes_eq (keys_of es) → map pair_of (promoted (bytes_eq key) es) ≡ to_front key (map pair_of es)
fronted key es distinct =
    fronted_by key es (lookup_entry (bytes_eq key) es) distinct refl
    ∙ ap (λ found. to_front_by found (map pair_of es)) (pair_found key es)

pub get_after : (key : List ℕ) (c : LruCache (List ℕ) TimedValue) → IsDistinct bytes_eq (keys_of c.entries) → memory_of (lru_cache (promoted (bytes_eq key) c.entries) c.cap) ≡ after_get key (memory_of c)
get_after key c distinct = ap (holding (memory_of c)) (fronted key c.entries distinct)

-- ---- a put

module _ (c : LruCache (List ℕ) TimedValue) (k : List ℕ) (v : TimedValue) (distinct : IsDistinct bytes_eq (keys_of c.entries)) (within : length c.entries ≤ c.cap) (roomy : 0 < c.cap) where
  abbrev pairs : List Pair
  pairs = map pair_of c.entries

  abbrev pair : Pair
  pair = record { key = k; value = v }

  one_more : c.cap ≡ suc (c.cap - 1)
  one_more = omega arith

  -- the list as it is if the key was there
  replaced_fits : (e : Entry) → lookup_entry (bytes_eq k) c.entries ≡ Some e → length (entered pair pairs) ≤ c.cap
  replaced_fits e found =
      let fewer = one_fewer k c.entries e found in
      let left : length (without k pairs) ≡ length (remove_entry (bytes_eq k) c.entries) = ap length (sym (removed k c.entries distinct)) ∙ length-map (remove_entry (bytes_eq k) c.entries) pair_of in
      omega (arith, fewer, left)

  -- the list as it is if the key was not
  new_first : lookup_entry (bytes_eq k) c.entries ≡ None → entered pair pairs ≡ pair ∷ pairs
  new_first none = ap (λ ps. pair ∷ ps) (without_absent k c.entries (absent k c.entries none))

  put_by : (o : Option Entry) → lookup_entry (bytes_eq k) c.entries ≡ o → map pair_of (option_map_or (λ e. (e.0, v) ∷ remove_entry (bytes_eq k) c.entries) o ((k, v) ∷ take (c.cap - 1) c.entries)) ≡ take c.cap (entered pair pairs)
  put_by None found =
      ap (λ ps. pair ∷ ps) (sym (take-map pair_of (c.cap - 1) c.entries))
      ∙ ap (λ n. take n (pair ∷ pairs)) (sym one_more)
      ∙ ap (take c.cap) (sym (new_first found))
  put_by (Some e) found =
      ap (λ (key : List ℕ). pair_of (key, v) ∷ map pair_of (remove_entry (bytes_eq k) c.entries)) (found_key k c.entries e found)
      ∙ ap (λ ps. pair ∷ ps) (removed k c.entries distinct)
      ∙ sym (take_all c.cap (entered pair pairs) (replaced_fits e found))

  pub put_after : memory_of (lru_cache (put_entries bytes_eq c k v) c.cap) ≡ after_put pair (memory_of c)
  put_after = ap (holding (memory_of c)) (put_by (lookup_entry (bytes_eq k) c.entries) refl)

  -- the pair past the capacity, if the key was not there
  last_out : lookup_entry (bytes_eq k) c.entries ≡ None → option_map pair_of (slice_get c.entries (c.cap - 1)) ≡ pushed_out pair (memory_of c)
  last_out none =
      sym (slice_get-map pair_of c.entries (c.cap - 1))
      ∙ ap (slice_get (pair ∷ pairs)) (sym one_more)
      ∙ ap (λ ps. slice_get ps c.cap) (sym (new_first none))

  -- none if it was
  none_out : (e : Entry) → lookup_entry (bytes_eq k) c.entries ≡ Some e → None ≡ pushed_out pair (memory_of c)
  none_out e found = sym (slice_get_past (entered pair pairs) c.cap (replaced_fits e found))

  out_by : (o : Option Entry) (left : Entry) → lookup_entry (bytes_eq k) c.entries ≡ o → Some left ≡ option_map_or (λ old. Some (k, old)) (option_map (λ (e : Entry). e.1) o) (slice_get c.entries (c.cap - 1)) → (if is_first left.0 (option_map_or (λ e. (e.0, v) ∷ remove_entry (bytes_eq k) c.entries) o ((k, v) ∷ take (c.cap - 1) c.entries)) then None else Some (pair_of left)) ≡ pushed_out pair (memory_of c)
  out_by None left found is =
      let other = other_at k c.entries (c.cap - 1) left (absent k c.entries found) (sym is) in
      rw other (ap (option_map pair_of) is ∙ last_out found)
  out_by (Some e) left found is =
      let one : left ≡ (k, e.1) = cc in
      let same : bytes_eq e.0 left.0 ≡ true = (bytes_decides e.0 left.0).1 (found_key k c.entries e found ∙ sym (ap (λ (x : Entry). x.0) one)) in
      rw same (none_out e found)

  displaced_by : displaced bytes_eq c k v ≡ option_map_or (λ old. Some (k, old)) (option_map (λ (e : Entry). e.1) (lookup_entry (bytes_eq k) c.entries)) (slice_get c.entries (c.cap - 1))
  displaced_by = ap (λ o. option_map_or (λ old. Some (k, old)) o (slice_get c.entries (c.cap - 1))) (value_of_entry k c.entries)

  -- what the map displaced is the pair that was pushed out, unless it has the key that is first now
  pub displaced_out : (left : Entry) → Some left ≡ displaced bytes_eq c k v → (if is_first left.0 (put_entries bytes_eq c k v) then None else Some (pair_of left)) ≡ pushed_out pair (memory_of c)
  displaced_out left is = out_by (lookup_entry (bytes_eq k) c.entries) left refl (is ∙ displaced_by)

  nothing_by : (o : Option Entry) → lookup_entry (bytes_eq k) c.entries ≡ o → None ≡ option_map_or (λ old. Some (k, old)) (option_map (λ (e : Entry). e.1) o) (slice_get c.entries (c.cap - 1)) → None ≡ pushed_out pair (memory_of c)
  nothing_by None found is = ap (option_map pair_of) is ∙ last_out found
  nothing_by (Some e) found is = cc

  pub nothing_out : None ≡ displaced bytes_eq c k v → None ≡ pushed_out pair (memory_of c)
  nothing_out is = nothing_by (lookup_entry (bytes_eq k) c.entries) refl (is ∙ displaced_by)
