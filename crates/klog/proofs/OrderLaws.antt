-- Entries stand in the order in which their records entered the log: by number, then page, then slot.
use Rattle.std.proofs.Common.{◌≡◌, ℕ, Bool, true, false, cond, inl, inr, ◌⊎◌, ◌+◌, ◌-◌, ◌<◌, ◌≤◌, ◌||◌, eqb, List, ◌∷◌, length, get_or, take, slice_get, Option, Some, None, All, refl, sym, ap, subst, ◌∙◌, arith}
use Rattle.std.specs.Prelude.{IsSome, IsTrue}
use Rattle.std.proofs.lemmas.Bool.{cases_eq, eq-eqb, eqb-true, ne_eqb, and_from, and_parts, or_left, or_right}
use Rattle.std.proofs.lemmas.List.{get_or-take, length-take-le}
use Rattle.std.proofs.lemmas.List.Elements.{All-filter}
use Rattle.std.proofs.lemmas.List.Kept.{AllPairs-filter, AllPairs-cons}
use Rattle.std.proofs.lemmas.Option.{slice_get_within, get_or_from_slice_get}
use Rattle.record_pages.specs.Recs.{Rec}
use Rattle.klog_index.specs.declared.entry.Entry.{Entry}
use Rattle.klog_index.specs.Entries.{has_tag, of_tag}
use Rattle.klog.specs.Buffer.{record_in, fits_here, page_of, page_for, slot_for}
use Rattle.klog.specs.Log.{LogState}
use Rattle.klog.specs.Names.{segment_of, flushed_number, filled_number}
use Rattle.klog.specs.Keeps.{IsHeld, IsBehind, AreOrdered, IsLog}
use Rattle.klog.specs.Known.{is_buffered, AreBuffered}
use Rattle.klog.specs.Append.{put_on, entry_for}
use Rattle.klog.proofs.BufferLaws.{page_within}
use Rattle.klog.proofs.ShownLaws.{entry_number}

some_of : (o : Option Rec) → IsSome o → (r : Rec) × (o ≡ Some r)
some_of (Some r) is = (r, cc)
some_of None is = absurd cc

-- what has a record lies before the next one
before_next : (size : ℕ) (pages : List (List Rec)) (r : Rec) (page slot : ℕ) (x : Rec) → record_in pages page slot ≡ Some x
    → (page < page_for size pages r) ⊎ ((page ≡ page_for size pages r) × (slot < slot_for size pages r))
before_next size pages r page slot x e = by_cases (fits_here size pages r) refl
  where
    at : ℕ
    at = length pages - 1

    lt : page < length pages
    lt = page_within pages page slot x e

    by_cases : (t : Bool) → fits_here size pages r ≡ t → (page < page_for size pages r) ⊎ ((page ≡ page_for size pages r) × (slot < slot_for size pages r))
    by_cases true here =
        let next : page_for size pages r ≡ at = ap (λ (t : Bool). cond t at (length pages)) here in
        let spot : slot_for size pages r ≡ length (page_of pages at) = ap (λ (t : Bool). cond t (length (page_of pages at)) 0) here in
        elim (cases_eq page at) [
          | inl same ↦ inr (same ∙ sym next, omega (arith, spot, slice_get_within (page_of pages at) slot x (ap (λ (n : ℕ). record_in pages n slot) (sym same) ∙ e)))
          | inr other ↦ inl (omega (arith, next, lt, other))
        ]
    by_cases false not_here =
        let next : page_for size pages r ≡ length pages = ap (λ (t : Bool). cond t at (length pages)) not_here in
        inl (omega (arith, next, lt))

-- what enters lies after what is held
enters_last : (bytes : ℕ) (k : LogState) (r : Rec) (e : Entry) → IsLog k → IsHeld k e → IsBehind k (entry_for bytes k r).place e.place
enters_last bytes k r e is held =
    let own = entry_number bytes k r is in
    elim (cases_eq (segment_of k e) (filled_number k)) [
      | inl at ↦
          let x = some_of _ (held.filled at) in
          inr (at ∙ sym own, before_next bytes k.filling r e.place.page e.place.slot x.0 x.1)
      | inr away ↦ inl (omega (arith, own, held.segment, away))
    ]

-- so the entries stand in order with what enters
pub ordered_put : (bytes : ℕ) (k : LogState) (r : Rec) → IsLog k → AreOrdered (put_on bytes k r) (entry_for bytes k r ∷ k.entries)
ordered_put bytes k r h =
    AllPairs-cons (λ a b. IsBehind k a.place b.place) (entry_for bytes k r) k.entries (λ i d lt. enters_last bytes k r (get_or k.entries i d) h (h.held i d lt)) h.ordered

-- entries that keep their numbers stand as they stood
pub ordered_again : (k k' : LogState) (es : List Entry) → All (λ e. segment_of k' e ≡ segment_of k e) es → AreOrdered k es → AreOrdered k' es
ordered_again k k' es same h = λ i j d lt within.
    let a = same i d (omega (arith, lt, within)) in
    let b = same j d within in
    elim (h i j d lt within) [
      | inl less ↦ inl (omega (arith, a, b, less))
      | inr on ↦ inr (b ∙ on.0 ∙ sym a, on.1)
    ]

-- ---- what is newer than a record in a buffer lies in a buffer too

-- a number from that of a buffered entry on is the flushed or the filled one
buffered_on : (k : LogState) (e x : Entry) → IsTrue (is_buffered k e) → segment_of k e ≤ segment_of k x → segment_of k x ≤ filled_number k → IsTrue (is_buffered k x)
buffered_on k e x is from to =
    elim (cases_eq (segment_of k x) (filled_number k)) [
      | inl at ↦ or_left _ _ (eq-eqb (segment_of k x) (filled_number k) at)
      | inr apart ↦
          let other : eqb (segment_of k e) (filled_number k) ≡ false = ne_eqb (segment_of k e) (filled_number k) (λ same. apart (omega (arith, same, from, to))) in
          let both = and_parts k.is_flushing (eqb (segment_of k e) (flushed_number k)) (second _ _ other is) in
          let fills : filled_number k ≡ flushed_number k + 1 = ap (λ (t : Bool). cond t (flushed_number k + 1) (flushed_number k)) both.0 in
          let at : segment_of k x ≡ flushed_number k = omega (arith, fills, eqb-true (segment_of k e) (flushed_number k) both.1, from, to, apart) in
          or_right _ _ (and_from k.is_flushing _ both.0 (eq-eqb (segment_of k x) (flushed_number k) at))
    ]
  where
    second : (a b : Bool) → a ≡ false → (a || b) ≡ true → b ≡ true
    second true b off on = absurd cc
    second false b off on = on

-- a place that lies after another is of a segment with no smaller number
behind_from : (k : LogState) (x e : Entry) → IsBehind k x.place e.place → segment_of k e ≤ segment_of k x
behind_from k x e h = elim h [ inl less ↦ omega (arith, less) | inr on ↦ omega (arith, on.0) ]

-- so do the entries of a tag that stand before one in a buffer
pub newer_buffered : (k : LogState) (set tag behind : ℕ) (e : Entry) → IsLog k → slice_get (of_tag set tag k.entries) behind ≡ Some e → IsTrue (is_buffered k e) → AreBuffered k (take behind (of_tag set tag k.entries))
newer_buffered k set tag behind e log at is = λ i d lt.
    let es = of_tag set tag k.entries in
    let within : behind < length es = slice_get_within es behind e at in
    let early : i < behind = omega (arith, lt, length-take-le behind es (omega (arith, within))) in
    let x : Entry = get_or es i d in
    let ordered : AreOrdered k es = AllPairs-filter (λ a b. IsBehind k a.place b.place) (has_tag set tag) k.entries log.ordered in
    let here : IsBehind k x.place e.place = subst (λ (y : Entry). IsBehind k x.place y.place) (get_or_from_slice_get es behind e d at) (ordered i behind d early within) in
    let held : IsHeld k x = All-filter (has_tag set tag) (IsHeld k) k.entries log.held i d (omega (arith, early, within)) in
    subst (λ (y : Entry). IsTrue (is_buffered k y)) (sym (get_or-take behind es i d early)) (buffered_on k e x is (behind_from k x e here) held.segment)
