-- What record an entry stands for, in each of the three places where it may lie, and that it stays if a segment is
-- sealed or a record is added.
use Rattle.std.proofs.Common.{◌≡◌, ◌≢◌, ℕ, ◌+◌, ◌≤◌, Bool, true, false, ◌&&◌, eqb, cond, List, [], ◌∷◌, get_or, Option, Some, None, inl, inr, refl, sym, ap, subst, ◌∙◌, arith}
use Rattle.std.specs.Prelude.{IsSome, IsSomeAnd}
use Rattle.std.specs.List.{cons_option}
use Rattle.std.specs.Option.{option_map}
use Rattle.std.proofs.lemmas.Bool.{eq-eqb, ne_eqb, and_from, cases_eq, cond_both}
use Rattle.std.proofs.lemmas.List.Elements.{All-cons}
use Rattle.page_device.specs.Frames.{pages_from}
use Rattle.record_pages.specs.Sizes.{room}
use Rattle.record_pages.specs.Recs.{Rec, IsRecord, size}
use Rattle.klog_index.specs.declared.entry.Entry.{Entry}
use Rattle.klog.specs.Buffer.{record_in, pages_with}
use Rattle.klog.specs.Log.{LogState}
use Rattle.klog.specs.Names.{segment_of, flushed_number, filled_number, ring_page}
use Rattle.klog.specs.Shown.{shown, record_of_held, CanStandFor, IsLive, IsFlushed, IsSpelled, live_on}
use Rattle.klog.specs.Keeps.{IsHeld, IsLog}
use Rattle.klog.specs.Append.{sealed, put_on, entry_for}
use Rattle.klog.proofs.BufferLaws.{still_in, added_at}
use Rattle.klog.proofs.LiveLaws.{live_by, live_by-same}
use Rattle.klog.proofs.RingLaws.{number_again}

-- the record is in the segment that is filled
pub shown_filled : (pages : ℕ → Option (List ℕ)) (k : LogState) (e : Entry) → segment_of k e ≡ filled_number k → shown pages k e ≡ record_in k.filling e.place.page e.place.slot
unfolding shown
shown_filled pages k e at =
    let a = record_in k.filling e.place.page e.place.slot in
    let b = record_in k.flushing e.place.page e.place.slot in
    let d = record_of_held (segment_of k e) e.place.page e.place.slot (pages (ring_page k (segment_of k e) e.place.page)) in
    ap (λ (t : Bool). cond t a (cond (k.is_flushing && eqb (segment_of k e) (flushed_number k)) b d)) (eq-eqb (segment_of k e) (filled_number k) at)

-- the record is in the segment that is flushed
pub shown_flushed : (pages : ℕ → Option (List ℕ)) (k : LogState) (e : Entry) → segment_of k e ≢ filled_number k → k.is_flushing ≡ true → segment_of k e ≡ flushed_number k → shown pages k e ≡ record_in k.flushing e.place.page e.place.slot
unfolding shown
shown_flushed pages k e not_filled is at =
    let a = record_in k.filling e.place.page e.place.slot in
    let b = record_in k.flushing e.place.page e.place.slot in
    let d = record_of_held (segment_of k e) e.place.page e.place.slot (pages (ring_page k (segment_of k e) e.place.page)) in
    ap (λ (t : Bool). cond t a (cond (k.is_flushing && eqb (segment_of k e) (flushed_number k)) b d)) (ne_eqb (segment_of k e) (filled_number k) not_filled)
    ∙ ap (λ (t : Bool). cond t b d) (and_from k.is_flushing (eqb (segment_of k e) (flushed_number k)) is (eq-eqb (segment_of k e) (flushed_number k) at))

-- the record is on a page of the device
pub shown_stored : (pages : ℕ → Option (List ℕ)) (k : LogState) (e : Entry) → segment_of k e ≢ filled_number k → (k.is_flushing && eqb (segment_of k e) (flushed_number k)) ≡ false → shown pages k e ≡ record_of_held (segment_of k e) e.place.page e.place.slot (pages (ring_page k (segment_of k e) e.place.page))
unfolding shown
shown_stored pages k e not_filled not_there =
    let a = record_in k.filling e.place.page e.place.slot in
    let b = record_in k.flushing e.place.page e.place.slot in
    let d = record_of_held (segment_of k e) e.place.page e.place.slot (pages (ring_page k (segment_of k e) e.place.page)) in
    ap (λ (t : Bool). cond t a (cond (k.is_flushing && eqb (segment_of k e) (flushed_number k)) b d)) (ne_eqb (segment_of k e) (filled_number k) not_filled)
    ∙ ap (λ (t : Bool). cond t b d) not_there

-- ---- entries that stand for the same records

-- an entry stays live
pub live_as : (bytes : ℕ) (pages pages' : ℕ → Option (List ℕ)) (k k' : LogState) (e : Entry) → k'.shape ≡ k.shape → shown pages' k' e ≡ shown pages k e → IsLive bytes pages k e → IsLive bytes pages' k' e
live_as bytes pages pages' k k' e shape same live =
    subst (λ s. IsSomeAnd (shown pages' k' e) (CanStandFor bytes s e)) (sym shape) (subst (λ o. IsSomeAnd o (CanStandFor bytes k.shape e)) (sym same) live)

-- ---- the filled segment is sealed

pub shown_sealed : (pages : ℕ → Option (List ℕ)) (k : LogState) (e : Entry) → k.is_flushing ≡ false → segment_of k e ≤ filled_number k → shown pages (sealed k) e ≡ shown pages k e
unfolding shown
shown_sealed pages k e idle to =
    let n = k.first + k.stored in
    let s = segment_of k e in
    let at : filled_number k ≡ n = ap (λ (t : Bool). cond t (n + 1) n) idle in
    let a = record_in k.filling e.place.page e.place.slot in
    let b = record_in k.flushing e.place.page e.place.slot in
    let d = record_of_held s e.place.page e.place.slot (pages (ring_page k s e.place.page)) in
    ap (λ (t : Bool). cond t (record_in [] e.place.page e.place.slot) (cond (eqb s n) a d)) (ne_eqb s (n + 1) (λ q. omega (arith, q, to, at)))
    ∙ sym (ap (λ (t : Bool). cond (eqb s (cond t (n + 1) n)) a (cond (t && eqb s n) b d)) idle)

pub spelled_sealed : (bytes : ℕ) (pages : ℕ → Option (List ℕ)) (k : LogState) → IsLog k → k.is_flushing ≡ false → IsSpelled bytes pages k → IsSpelled bytes pages (sealed k)
spelled_sealed bytes pages k is idle h = record {
  live = λ i d lt. live_as bytes pages pages k (sealed k) (get_or k.entries i d) refl (shown_sealed pages k (get_or k.entries i d) idle (is.held i d lt).segment) (h.live i d lt);
  flushed = λ i d lt same flushing below. absurd (omega (arith, below));
}

pub live_sealed : (held : ℕ → Option (List ℕ)) (k : LogState) → IsLog k → k.is_flushing ≡ false → live_on held (sealed k) ≡ live_on held k
live_sealed held k is idle =
    let pages = pages_from k.shape.sets held in
    live_by-same (shown pages k) (shown pages (sealed k)) k.entries (λ i d lt. shown_sealed pages k (get_or k.entries i d) idle (is.held i d lt).segment)

-- ---- a record is added

-- the number that the entry of an added record names
pub entry_number : (bytes : ℕ) (k : LogState) (r : Rec) → IsLog k → segment_of k (entry_for bytes k r) ≡ filled_number k
entry_number bytes k r is =
    let n = k.first + k.stored in
    let near : filled_number k ≤ n + 1 = cond_both k.is_flushing (n + 1) n (λ m. m ≤ n + 1) (λ _. omega arith) (λ _. omega arith) in
    let from : k.first ≤ filled_number k = cond_both k.is_flushing (n + 1) n (λ m. k.first ≤ m) (λ _. omega arith) (λ _. omega arith) in
    number_again k (filled_number k) from (omega (arith, near, is.stored_fits))

-- a place that has a record keeps it
still_same : (o o' : Option Rec) → IsSome o → ((x : Rec) → o ≡ Some x → o' ≡ Some x) → o' ≡ o
still_same None o' some keeps = absurd cc
still_same (Some x) o' some keeps = keeps x refl

pub shown_put : (bytes : ℕ) (pages : ℕ → Option (List ℕ)) (k : LogState) (r : Rec) (e : Entry) → IsHeld k e → shown pages (put_on bytes k r) e ≡ shown pages k e
unfolding shown
shown_put bytes pages k r e is =
    let s = segment_of k e in
    let a = record_in k.filling e.place.page e.place.slot in
    let a' = record_in (pages_with bytes k.filling r) e.place.page e.place.slot in
    let d = cond (k.is_flushing && eqb s (flushed_number k)) (record_in k.flushing e.place.page e.place.slot) (record_of_held s e.place.page e.place.slot (pages (ring_page k s e.place.page))) in
    elim (cases_eq s (filled_number k)) [
      | inl at ↦ let same : a' ≡ a = still_same a a' (is.filled at) (still_in bytes k.filling r e.place.page e.place.slot) in ap (λ (o : Option Rec). cond (eqb s (filled_number k)) o d) same
      | inr away ↦ ap (λ (t : Bool). cond t a' d) (ne_eqb s (filled_number k) away) ∙ sym (ap (λ (t : Bool). cond t a d) (ne_eqb s (filled_number k) away))
    ]

pub shown_new : (bytes : ℕ) (pages : ℕ → Option (List ℕ)) (k : LogState) (r : Rec) → IsLog k → shown pages (put_on bytes k r) (entry_for bytes k r) ≡ Some r
shown_new bytes pages k r is = shown_filled pages (put_on bytes k r) (entry_for bytes k r) (entry_number bytes k r is) ∙ added_at bytes k.filling r

-- the segment that is filled is not the one that is flushed
pub filled_apart : (k : LogState) → k.is_flushing ≡ true → filled_number k ≢ flushed_number k
filled_apart k is same = let up : filled_number k ≡ flushed_number k + 1 = ap (λ (t : Bool). cond t (flushed_number k + 1) (flushed_number k)) is in omega (arith, up, same)

pub spelled_put : (bytes : ℕ) (pages : ℕ → Option (List ℕ)) (k : LogState) (r : Rec) → IsLog k → size r ≤ room bytes → IsRecord r → IsSpelled bytes pages k → IsSpelled bytes pages (put_on bytes k r)
spelled_put bytes pages k r is small lawful h =
    let k' = put_on bytes k r in
    let e = entry_for bytes k r in
    let own : CanStandFor bytes k.shape e r = record { set_is = refl; tag_is = refl; small = small; lawful = lawful } in
    record {
      live = All-cons (IsLive bytes pages k') e k.entries (subst (λ o. IsSomeAnd o (CanStandFor bytes k.shape e)) (sym (shown_new bytes pages k r is)) own)
          (λ i d lt. live_as bytes pages pages k k' (get_or k.entries i d) refl (shown_put bytes pages k r (get_or k.entries i d) (is.held i d lt)) (h.live i d lt));
      flushed = All-cons (IsFlushed bytes pages k') e k.entries (λ at flushing below. absurd (filled_apart k flushing (sym (entry_number bytes k r is) ∙ at))) h.flushed;
    }

pub live_put : (bytes : ℕ) (held : ℕ → Option (List ℕ)) (k : LogState) (r : Rec) → IsLog k → live_on held (put_on bytes k r) ≡ (entry_for bytes k r, r) ∷ live_on held k
live_put bytes held k r is =
    let pages = pages_from k.shape.sets held in
    let e = entry_for bytes k r in
    let shows' = shown pages (put_on bytes k r) in
    ap (λ (o : Option Rec). cons_option (option_map (λ (r : Rec). (e, r)) o) (live_by shows' k.entries)) (shown_new bytes pages k r is)
    ∙ ap (cons_option (Some (e, r))) (live_by-same (shown pages k) shows' k.entries (λ i d lt. shown_put bytes pages k r (get_or k.entries i d) (is.held i d lt)))
