-- What keeps a store.
use Rattle.std.proofs.Common.{◌≡◌, ◌≤◌, ◌+◌, ◌*◌, ℕ, List, [], Option, Some, None, Bool, not, refl, sym, ap, subst, ◌∙◌, arith}
use Rattle.std.specs.Prelude.{IsTrue, All}
use Rattle.page_device.specs.Frames.{pages_before, pages_from}
use Rattle.std.specs.Str.{bytes_eq}
use Rattle.std.proofs.lemmas.List.{length-replicate}
use Rattle.std.proofs.lemmas.List.Elements.{All-filter, All-nil, All-cons, All-contains}
use Rattle.record_pages.specs.Sizes.{IsPageSize}
use Rattle.record_pages.specs.declared.layout.Layout.{Layout}
use Rattle.memory_cache.specs.MemoryList.{MemoryList, after_remove, after_get, pair_in, to_front_by, without, empty}
use Rattle.memory_cache.specs.declared.pair.Pair.{Pair}
use Rattle.mover.proofs.public_laws.Listing.{found_in}
use Rattle.klog.specs.Log.{LogState, Shape, shape_of, opening_log}
use Rattle.klog.specs.Shown.{IsSpelled, IsSpelledOn}
use Rattle.kset.specs.Notes.{no_notes}
use Rattle.kset.specs.Sets.{SetsState, set_count, notes_of, opening_sets}
use Rattle.kset.specs.Pages.{AreSpelled, AreSpelledOn, records_on}
use Rattle.kset.specs.Shown.{visible_in, visible_from}
use Rattle.kset.specs.Laws.{AreOfTheirSets, IsKeyOf}
use Rattle.record_pages.specs.Recs.{Rec}
use Rattle.mover.specs.Flight.{Flight, IsFlightOf, AreFlights, AreOfSet}
use Rattle.mover.specs.Store.{StoreState, IsStore, IsSmall, most_moves}

-- the same first pages spell the same sets
pub sets_framed : (size : ℕ) (old new : ℕ → Option (List ℕ)) (q : SetsState) → pages_before (set_count q) new ≡ pages_before (set_count q) old →
    AreSpelledOn size old q → AreSpelledOn size new q
sets_framed size old new q frame spelled = subst (λ pages. AreSpelled size pages q) (sym frame) spelled

-- and show the same
pub visible_framed : (old new : ℕ → Option (List ℕ)) (q : SetsState) → pages_before (set_count q) new ≡ pages_before (set_count q) old → visible_in new q ≡ visible_in old q
visible_framed old new q frame = λ i set. visible_from (notes_of q set) 0 (records_on (frame i set))

-- the same later pages spell the same log
pub log_framed : (size : ℕ) (old new : ℕ → Option (List ℕ)) (k : LogState) → pages_from k.shape.sets new ≡ pages_from k.shape.sets old →
    IsSpelledOn size old k → IsSpelledOn size new k
log_framed size old new k frame spelled = subst (λ pages. IsSpelled size pages k) (sym frame) spelled

module _ {D : Type 0} (size : ℕ) (pages : D → ℕ) (honest : D → Bool) (held : D → ℕ → Option (List ℕ)) (s : StoreState D) (was : IsStore size pages honest held s) where
  -- a call that changes the flash tiers, and keeps their sizes and their spelling
  pub kept_flash : (d : D) (k : LogState) (q : SetsState) → k.shape ≡ s.log.shape → set_count q ≡ set_count s.sets → pages d ≡ pages s.device → honest d ≡ honest s.device →
      (IsTrue (honest s.device) → IsSpelledOn size (held s.device) s.log → IsSpelledOn size (held d) k) →
      (IsTrue (honest s.device) → AreSpelledOn size (held s.device) s.sets → AreSpelledOn size (held d) q) →
      (IsTrue (honest s.device) → AreOfTheirSets s.log.shape.lanes s.log.shape.sets (visible_in (held s.device) s.sets) → AreOfTheirSets s.log.shape.lanes s.log.shape.sets (visible_in (held d) q)) →
      IsStore size pages honest held (record s { device = d; log = k; sets = q })
  kept_flash d k q shape sizes same_pages same_honesty log sets placed = record {
    page_size = was.page_size;
    shape = shape ∙ was.shape;
    counted = sizes ∙ was.counted;
    capacity = was.capacity;
    roomy = was.roomy;
    small = was.small;
    room = subst (λ (h : Shape). h.sets + h.segments * h.segment_pages ≤ pages d) (sym shape)
        (subst (λ n. s.log.shape.sets + s.log.shape.segments * s.log.shape.segment_pages ≤ n) (sym same_pages) was.room);
    numbered = was.numbered;
    flights = subst (λ (h : Shape). AreFlights h s.moves s.flights) (sym shape) was.flights;
    flights_placed = λ is. let before : IsTrue (honest s.device) = sym same_honesty ∙ is in
        subst (λ (h : Shape). All (λ (f : Flight). AreOfSet h f.moving) s.flights) (sym shape) (was.flights_placed before);
    log_spelled = λ is. let before : IsTrue (honest s.device) = sym same_honesty ∙ is in log before (was.log_spelled before);
    sets_spelled = λ is. let before : IsTrue (honest s.device) = sym same_honesty ∙ is in sets before (was.sets_spelled before);
    sets_placed = λ is. let before : IsTrue (honest s.device) = sym same_honesty ∙ is in
        subst (λ (h : Shape). AreOfTheirSets h.lanes h.sets (visible_in (held d) q)) (sym shape) (placed before (was.sets_placed before));
  }

  -- the sets and the log count the same sets
  pub counted_alike : set_count s.sets ≡ s.log.shape.sets
  counted_alike = was.counted ∙ sym (ap (λ (h : Shape). h.sets) was.shape)

  -- a call that reads the log
  pub kept_log_read : (d : D) (k : LogState) → k.shape ≡ s.log.shape → pages d ≡ pages s.device → honest d ≡ honest s.device → (IsTrue (honest s.device) → held d ≡ held s.device) →
      (IsTrue (honest s.device) → IsSpelledOn size (held s.device) s.log → IsSpelledOn size (held d) k) → IsStore size pages honest held (record s { device = d; log = k })
  kept_log_read d k shape same_pages same_honesty same log =
      kept_flash d k s.sets shape refl same_pages same_honesty log (λ is spelled. subst (λ on. AreSpelledOn size on s.sets) (sym (same is)) spelled)
      (λ is placed. subst (λ on. AreOfTheirSets s.log.shape.lanes s.log.shape.sets (visible_in on s.sets)) (sym (same is)) placed)

  -- a call that reads a set
  pub kept_set_read : (d : D) (q : SetsState) → set_count q ≡ set_count s.sets → pages d ≡ pages s.device → honest d ≡ honest s.device → (IsTrue (honest s.device) → held d ≡ held s.device) →
      (IsTrue (honest s.device) → AreSpelledOn size (held s.device) s.sets → AreSpelledOn size (held d) q) →
      (IsTrue (honest s.device) → AreOfTheirSets s.log.shape.lanes s.log.shape.sets (visible_in (held s.device) s.sets) → AreOfTheirSets s.log.shape.lanes s.log.shape.sets (visible_in (held d) q)) → IsStore size pages honest held (record s { device = d; sets = q })
  kept_set_read d q sizes same_pages same_honesty same sets placed =
      kept_flash d s.log q refl sizes same_pages same_honesty (λ is spelled. subst (λ on. IsSpelledOn size on s.log) (sym (same is)) spelled) sets placed

  -- a call that reads a page, and changes nothing else
  pub kept_device : (d : D) → pages d ≡ pages s.device → honest d ≡ honest s.device → (IsTrue (honest s.device) → held d ≡ held s.device) → IsStore size pages honest held (record s { device = d })
  kept_device d same_pages same_honesty same = kept_log_read d s.log refl same_pages same_honesty same (λ is spelled. subst (λ on. IsSpelledOn size on s.log) (sym (same is)) spelled)

  -- a call that changes memory, and keeps its capacity and small objects in it
  pub kept_memory : (m : MemoryList) → m.capacity ≡ s.memory.capacity → All (IsSmall size) m.pairs → IsStore size pages honest held (record s { memory = m })
  kept_memory m capacity small = record {
    page_size = was.page_size;
    shape = was.shape;
    counted = was.counted;
    capacity = capacity ∙ was.capacity;
    roomy = subst (λ n. 1 ≤ n) (sym capacity) was.roomy;
    small = small;
    room = was.room;
    numbered = was.numbered;
    flights = was.flights;
    flights_placed = was.flights_placed;
    log_spelled = was.log_spelled;
    sets_spelled = was.sets_spelled;
    sets_placed = was.sets_placed;
  }

  -- a call that changes the moves in flight
  pub kept_flights : (fs : List Flight) (n : ℕ) → n ≤ most_moves → AreFlights s.log.shape n fs → (IsTrue (honest s.device) → All (λ (f : Flight). AreOfSet s.log.shape f.moving) fs) →
      IsStore size pages honest held (record s { flights = fs; moves = n })
  kept_flights fs n few flights placed = record {
    page_size = was.page_size;
    shape = was.shape;
    counted = was.counted;
    capacity = was.capacity;
    roomy = was.roomy;
    small = was.small;
    room = was.room;
    numbered = few;
    flights = flights;
    flights_placed = placed;
    log_spelled = was.log_spelled;
    sets_spelled = was.sets_spelled;
    sets_placed = was.sets_placed;
  }

-- small objects stay small ones if one leaves
pub small_removed : (size : ℕ) (old new : MemoryList) (key : List ℕ) → new ≡ after_remove key old → All (IsSmall size) old.pairs → All (IsSmall size) new.pairs
small_removed size old new key after small =
    subst (λ (m : MemoryList). All (IsSmall size) m.pairs) (sym after) (All-filter (λ p. not (bytes_eq key p.key)) (IsSmall size) old.pairs small)

-- what a store is kept by at first: nothing is in its tiers
pub opened : {D : Type 0} (strikes size : ℕ) (pages : D → ℕ) (honest : D → Bool) (held : D → ℕ → Option (List ℕ)) (layout : Layout) (d : D) (m : MemoryList) (k : LogState) (q : SetsState) (fs : List Flight) → IsPageSize size → 1 ≤ layout.memory →
    m ≡ empty layout.memory → k ≡ opening_log (shape_of layout) → q ≡ opening_sets layout.sets strikes → fs ≡ [] → layout.sets + layout.segments * layout.segment_pages ≤ pages d →
    ((on : ℕ → Option (List ℕ)) → IsSpelledOn size on k) → ((on : ℕ → Option (List ℕ)) → AreSpelledOn size on q) → ((on : ℕ → Option (List ℕ)) (set : ℕ) → visible_in on q set ≡ []) →
    IsStore size pages honest held (record { layout = layout; device = d; memory = m; log = k; sets = q; flights = fs; moves = 0 })
opened strikes size pages honest held layout d m k q fs page_size roomy memory log sets none fits log_spelled sets_spelled shown = record {
  page_size = page_size;
  shape = ap (λ (x : LogState). x.shape) log;
  counted = ap set_count sets ∙ length-replicate layout.sets no_notes;
  capacity = ap (λ (x : MemoryList). x.capacity) memory;
  roomy = subst (λ (x : MemoryList). 1 ≤ x.capacity) (sym memory) roomy;
  small = subst (λ (x : MemoryList). All (IsSmall size) x.pairs) (sym memory) (All-nil (IsSmall size));
  room = subst (λ (h : Shape). h.sets + h.segments * h.segment_pages ≤ pages d) (sym (ap (λ (x : LogState). x.shape) log)) fits;
  log_spelled = λ _. log_spelled (held d);
  sets_spelled = λ _. sets_spelled (held d);
  sets_placed = λ _ set.
      subst (λ (xs : List (ℕ × Rec)). All (λ (x : ℕ × Rec). IsKeyOf k.shape.lanes k.shape.sets set x.1.key) xs) (sym (shown (held d) set)) (All-nil (λ (x : ℕ × Rec). IsKeyOf k.shape.lanes k.shape.sets set x.1.key));
  numbered = omega arith;
  flights = subst (AreFlights k.shape 0) (sym none) (record {
    few = omega arith;
    each = All-nil (IsFlightOf k.shape 0);
    rising = λ i j d less lt. absurd (omega (arith, lt));
    apart = λ i j d less lt. absurd (omega (arith, lt));
  });
  flights_placed = λ _. subst (All (λ (f : Flight). AreOfSet k.shape f.moving)) (sym none) (All-nil (λ (f : Flight). AreOfSet k.shape f.moving));
}

-- what holds of each pair in memory holds of each still if one comes to the front
pub all_fronted : (P : Pair → Type 0) (old new : MemoryList) (key : List ℕ) → new ≡ after_get key old → All P old.pairs → All P new.pairs
all_fronted P old new key after all = subst (λ (m : MemoryList). All P m.pairs) (sym after) (step (pair_in key old.pairs) refl)
  where
    step : (o : Option Pair) → pair_in key old.pairs ≡ o → All P (to_front_by o old.pairs)
    step None e = all
    step (Some pair) e =
        All-cons P pair (without pair.key old.pairs) (All-contains P old.pairs pair all (found_in (λ p. bytes_eq key p.key) old.pairs pair e)) (All-filter (λ p. not (bytes_eq pair.key p.key)) P old.pairs all)
