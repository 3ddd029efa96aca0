-- What is left of taken records, which record is taken first, and what a lost page leaves.
use Rattle.std.proofs.Common.{◌≡◌, ◌≢◌, ℕ, Bool, true, false, cond, not, List, [], ◌∷◌, ◌+◌, get_or, length, filter, map, take, Option, Some, All, Contains, refl, sym, ap, subst, ◌∙◌, arith}
use Rattle.std.specs.declared.alloc.AllocError.{AllocError}
use Rattle.std.specs.Prelude.{find, IsSomeAnd, Result, Ok, ◌==◌, ◌&&◌}
use Rattle.std.specs.List.{list_any}
use Rattle.std.proofs.lemmas.Bool.{and_parts, false≢true, ne_eqb, not-true}
use Rattle.std.proofs.lemmas.List.Elements.{All-contains, All-weaker, filter_passes}
use Rattle.std.proofs.lemmas.List.Folds.{list_any_none}
use Rattle.record_pages.specs.Recs.{Rec}
use Rattle.klog_index.specs.declared.entry.Entry.{Entry}
use Rattle.klog_index.specs.Entries.{is_of, is_place}
use Rattle.klog.specs.Flush.{is_on_page, moved_on, without_next}
use Rattle.klog.specs.Log.{LogState}
use Rattle.klog.specs.Moves.{dropped, is_source, is_taken, most_taken, taken_as, taken_of, TakeGives}
use Rattle.klog.specs.Names.{segment_of, flushed_number}
use Rattle.klog.specs.declared.set_taken.SetTaken.{SetTaken}
use Rattle.klog.specs.declared.set_taken.SetTaken.TheVariants as taken
use Rattle.klog.specs.declared.taken_record.TakenRecord.{TakenRecord}
use Rattle.tier_tests.proofs.LogRowLaws.{kept}

-- no record was taken of an entry of a segment with another number
no_source : (k : LogState) (e : Entry) (t : TakenRecord) → t.segment ≢ segment_of k e → is_source k t e ≡ false
no_source k e t apart = step (is_place e.place t.place) (segment_of k e == t.segment) (ne_eqb (segment_of k e) t.segment (λ same. apart (sym same)))
  where
    step : (a b : Bool) → b ≡ false → (a && b) ≡ false
    step true b is = is
    step false b is = refl

-- so it stays
pub off_segment : (k : LogState) (set : ℕ) (ts : List TakenRecord) (other : Entry) → Contains k.entries other → All (λ t. t.segment ≢ segment_of k other) ts → Contains (dropped k set ts).entries other
off_segment k set ts other there apart = kept (λ e. not (is_taken k set ts e)) k.entries other there (step (is_taken k set ts other) refl)
  where
    none : list_any (λ t. is_source k t other) ts ≡ false
    none = list_any_none (λ t. is_source k t other) ts (All-weaker (λ t. t.segment ≢ segment_of k other) (λ t. is_source k t other ≡ false) (no_source k other) ts apart)

    step : (b : Bool) → is_taken k set ts other ≡ b → not (is_taken k set ts other) ≡ true
    step false is = ap not is
    step true is = absurd (false≢true (sym none ∙ (and_parts (is_of set other) _ is).1))

-- the first record that is taken is that of the first live one of the set
pub first_taken : (k : LogState) (set : ℕ) (live : List (Entry × Rec)) (first : TakenRecord) (others : List TakenRecord) → first ∷ others ≡ taken_of k set live
    → IsSomeAnd (find (λ x. is_of set x.0) live) (λ x. first ≡ taken_as k x)
first_taken k set [] first others is = let none : length (first ∷ others) ≡ 0 = ap length is in absurd (omega (arith, none))
first_taken k set (x ∷ live) first others is = step (is_of set x.0) refl (first_taken k set live first others)
  where
    step : (b : Bool) → is_of set x.0 ≡ b → (first ∷ others ≡ taken_of k set live → IsSomeAnd (find (λ y. is_of set y.0) live) (λ y. first ≡ taken_as k y)) → IsSomeAnd (find (λ y. is_of set y.0) (x ∷ live)) (λ y. first ≡ taken_as k y)
    step true its later =
        let found : find (λ y. is_of set y.0) (x ∷ live) ≡ Some x = rw its refl in
        let kept_first : filter (λ y. is_of set y.0) (x ∷ live) ≡ x ∷ filter (λ y. is_of set y.0) live = rw its refl in
        let head : first ≡ taken_as k x = ap (λ (ts : List TakenRecord). get_or ts 0 first) (is ∙ ap (λ (xs : List (Entry × Rec)). map (taken_as k) (take most_taken xs)) kept_first) in
        subst (λ (o : Option (Entry × Rec)). IsSomeAnd o (λ y. first ≡ taken_as k y)) (sym found) head
    step false its later =
        let found : find (λ y. is_of set y.0) (x ∷ live) ≡ find (λ y. is_of set y.0) live = rw its refl in
        let dropped_first : filter (λ y. is_of set y.0) (x ∷ live) ≡ filter (λ y. is_of set y.0) live = rw its refl in
        subst (λ (o : Option (Entry × Rec)). IsSomeAnd o (λ y. first ≡ taken_as k y)) (sym found)
        (later (is ∙ ap (λ (xs : List (Entry × Rec)). map (taken_as k) (take most_taken xs)) dropped_first))

pub newest_first : (old new : LogState) (set : ℕ) (live after : List (Entry × Rec)) (a : SetTaken) → TakeGives old set live a new after → (first : TakenRecord) (others : List TakenRecord)
    → ◌≡◌ {A = Result SetTaken AllocError} (Ok a) (Ok (taken.Records (first ∷ others))) → IsSomeAnd (find (λ x. is_of set x.0) live) (λ x. first ≡ taken_as old x)
newest_first old new set live after (taken.Records rs) h first others is = let same : rs ≡ first ∷ others = cc in first_taken old set live first others (sym same ∙ h.0)
newest_first old new set live after taken.PageLost h first others is = absurd cc

-- no entry of a lost page is left
pub none_of_lost : (old new : LogState) → new ≡ moved_on (without_next old) → (e : Entry) → Contains new.entries e → is_on_page old (flushed_number old) old.done e ≡ false
none_of_lost old new is e there =
    let on = is_on_page old (flushed_number old) old.done in
    let left : Contains (filter (λ x. not (on x)) old.entries) e = subst (λ (es : List Entry). Contains es e) (ap (λ (k : LogState). k.entries) is ∙ moved (without_next old)) there in
    not-true (on e) (All-contains (λ x. not (on x) ≡ true) (filter (λ x. not (on x)) old.entries) e (filter_passes (λ x. not (on x)) old.entries) left)
  where
    moved : (k : LogState) → (moved_on k).entries ≡ k.entries
    moved k = step (k.done + 1 == length k.flushing)
      where
        step : (b : Bool) → (cond b (record k { stored = k.stored + 1; is_flushing = false; done = 0; flushing = [] }) (record k { done = k.done + 1 })).entries ≡ k.entries
        step true = refl
        step false = refl
