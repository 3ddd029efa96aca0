-- A record that is added finds a free place, and leaves a log.
use Rattle.std.proofs.Common.{◌≡◌, ℕ, ◌*◌, ◌/◌, ◌%◌, Bool, true, false, cond, inl, inr, ◌<◌, ◌≤◌, ◌^◌, List, ◌∷◌, length, get_or, Option, Some, None, sym, ap, subst, ◌∙◌, arith}
use Rattle.std.specs.Prelude.{IsSome}
use Rattle.std.specs.Bool.{OnTrue, OnFalse}
use Rattle.std.proofs.lemmas.List.Elements.{All-cons}
use Rattle.std.proofs.Math.Nat.{div-zero}
use Rattle.std.proofs.lemmas.Bool.{cases_lt}
use Rattle.std.proofs.lemmas.Grind.{rows}
use Rattle.set_hash.specs.Fnv.{fnv1a}
use Rattle.record_pages.specs.Recs.{Rec}
use Rattle.klog_index.specs.declared.entry.Entry.{Entry}
use Rattle.klog_index.specs.declared.place.Place.{Place}
use Rattle.klog_index.specs.Entries.{IsFree}
use Rattle.klog.specs.Buffer.{record_in, can_add, pages_with, page_for}
use Rattle.klog.specs.Log.{Shape, LogState, filling_buffer}
use Rattle.klog.specs.Shown.{place_in, live_on}
use Rattle.klog.specs.Names.{number_of, segment_of, filled_number}
use Rattle.klog.specs.Keeps.{IsHeld, IsLog}
use Rattle.klog.specs.Append.{put_on, entry_for, sealed, taker, live_entered}
use Rattle.klog.proofs.BufferLaws.{still_in, added_at, free_at, length-pages_with}
use Rattle.klog.proofs.ShownLaws.{entry_number}
use Rattle.klog.proofs.OrderLaws.{ordered_put}

-- the set of a key is one of the sets
pub set_within : (shape : Shape) (key : List ℕ) → 0 < shape.sets → (place_in shape key).set < shape.sets
set_within shape key some =
    elim (cases_lt 0 shape.lanes) [
      | inl lanes ↦ below lanes
      | inr none ↦ let zero_lanes : shape.lanes ≡ 0 = omega (arith, none) in subst (λ n. hash % (n * shape.sets) / n < shape.sets) (sym zero_lanes) (omega (arith, div-zero (hash % (0 * shape.sets)), some))
    ]
  where
    hash : ℕ
    hash = fnv1a key

    below : 0 < shape.lanes → hash % (shape.lanes * shape.sets) / shape.lanes < shape.sets
    below lanes = grind (arith, rows)

-- some value is no want of one
some_none : (o : Option Rec) → IsSome o → o ≡ None → ⊥
some_none (Some r) is none = absurd cc
some_none None is none = absurd cc

-- a value that is there is some value
some_is : (o : Option Rec) (r : Rec) → o ≡ Some r → IsSome o
some_is o r is = subst (λ q. IsSome q) (sym is) cc

some_of : (o : Option Rec) → IsSome o → (r : Rec) × (o ≡ Some r)
some_of (Some r) is = (r, cc)
some_of None is = absurd cc

-- the place of a record that is added is no entry's
pub entry_free : (bytes : ℕ) (k : LogState) (r : Rec) → IsLog k → IsFree (entry_for bytes k r).place k.entries
entry_free bytes k r is i d lt same =
    let e = get_or k.entries i d in
    let at : segment_of k e ≡ filled_number k = ap (λ (p : Place). number_of k p.segment) same ∙ entry_number bytes k r is in
    some_none _ ((is.held i d lt).filled at) (ap (λ (p : Place). record_in k.filling p.page p.slot) same ∙ free_at bytes k.filling r)

-- an entry stays held
held_put : (bytes : ℕ) (k : LogState) (r : Rec) (e : Entry) → IsHeld k e → IsHeld (put_on bytes k r) e
held_put bytes k r e h = record {
  set = h.set;
  name = h.name;
  page = h.page;
  segment = h.segment;
  filled = λ at.
      let was = some_of (record_in k.filling e.place.page e.place.slot) (h.filled at) in
      some_is (record_in (pages_with bytes k.filling r) e.place.page e.place.slot) was.0 (still_in bytes k.filling r e.place.page e.place.slot was.0 was.1);
}

pub log_put : (bytes : ℕ) (k : LogState) (r : Rec) → IsLog k → length k.entries < k.shape.limit → (entry_for bytes k r).set < k.shape.sets → page_for bytes k.filling r < k.shape.segment_pages → filled_number k ≤ 2 ^ 62 → IsLog (put_on bytes k r)
log_put bytes k r h listed set at number =
    let k' = put_on bytes k r in
    let e = entry_for bytes k r in
    record {
      some_sets = h.some_sets;
      few_sets = h.few_sets;
      some_segments = h.some_segments;
      few_segments = h.few_segments;
      some_pages = h.some_pages;
      few_pages = h.few_pages;
      held = All-cons (IsHeld k') e k.entries
          (record {
            set = set;
            name = omega arith;
            page = at;
            segment = omega (arith, entry_number bytes k r h);
            filled = λ _. some_is (record_in (pages_with bytes k.filling r) e.place.page e.place.slot) r (added_at bytes k.filling r);
          })
          (λ i d lt. held_put bytes k r (get_or k.entries i d) (h.held i d lt));
      ordered = ordered_put bytes k r h;
      few_entries = omega (arith, listed);
      stored_fits = h.stored_fits;
      filling_fits = length-pages_with bytes k.shape.segment_pages k.filling r h.filling_fits at;
      flushing_fits = h.flushing_fits;
      numbers = h.numbers;
      numbered = λ _. number;
      flushing_left = h.flushing_left;
      flushing_free = h.flushing_free;
    }

-- what is live when a record entered a new segment, or did not
pub live_anew : (bytes : ℕ) (held : ℕ → Option (List ℕ)) (old next new : LogState) (r : Rec) (entered : Bool) → can_add bytes (filling_buffer old) r ≡ false → next ≡ sealed old → live_on held next ≡ live_on held old
    → OnTrue entered (live_on held new ≡ (entry_for bytes next r, r) ∷ live_on held next) → OnFalse entered (new ≡ next) → live_on held new ≡ live_entered bytes old r entered (live_on held old)
live_anew bytes held old next new r true cannot is same more left =
    let taken : next ≡ taker bytes old r = is ∙ sym (ap (λ (t : Bool). cond t old (sealed old)) cannot) in
    more ∙ ap (λ (xs : List (Entry × Rec)). (entry_for bytes next r, r) ∷ xs) same ∙ ap (λ (k : LogState). (entry_for bytes k r, r) ∷ live_on held old) taken
live_anew bytes held old next new r false cannot is same more left = ap (live_on held) left ∙ same
