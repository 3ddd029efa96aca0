-- What is live after entries were dropped or lowered.
use Rattle.std.proofs.Common.{◌≡◌, ℕ, zero, suc, ◌<◌, ◌≤◌, Bool, true, false, cond, List, [], ◌∷◌, length, get_or, filter, map, Option, Some, None, All, Contains, refl, sym, ap, subst, ◌∙◌, arith}
use Rattle.std.specs.List.{filter_map, cons_option}
use Rattle.std.specs.Option.{option_map}
use Rattle.std.specs.Prelude.{IsSomeAnd}
use Rattle.std.proofs.lemmas.Bool.{cond_both}
use Rattle.std.proofs.lemmas.List.Elements.{All-filter, All-weaker, All-nil, All-cons, All-head, All-tail, Contains-append_right}
use Rattle.std.proofs.lemmas.List.Kept.{AllPairs-filter}
use Rattle.record_pages.specs.Recs.{Rec}
use Rattle.page_device.specs.Frames.{pages_from}
use Rattle.klog_index.specs.declared.entry.Entry.{Entry}
use Rattle.klog_index.specs.declared.place.Place.{Place}
use Rattle.klog_index.specs.Entries.{lowered, with_lowered}
use Rattle.klog_index.proofs.public_laws.EntryLaws.{length-with_lowered}
use Rattle.klog.specs.Log.{Shape, LogState, with_list}
use Rattle.klog.specs.Shown.{shown, live_on, CanStandFor, IsLive, IsFlushed, IsSpelledOn}
use Rattle.klog.specs.Keeps.{IsHeld, IsBehind, AreOrdered, IsLog}

-- entries, each with the record that it shows
abbrev pub live_by : (Entry → Option Rec) → List Entry → List (Entry × Rec)
live_by shows es = filter_map (λ e. option_map (λ r. (e, r)) (shows e)) es

-- entries that are kept are live as they were
pub live_by-kept : (p : Entry → Bool) (shows : Entry → Option Rec) (es : List Entry) → live_by shows (filter p es) ≡ filter (λ x. p x.0) (live_by shows es)
live_by-kept p shows [] = refl
live_by-kept p shows (e ∷ es) = step (live_by-kept p shows es) (p e) (shows e) refl refl
  where
    step : live_by shows (filter p es) ≡ filter (λ x. p x.0) (live_by shows es) → (b : Bool) (o : Option Rec) → p e ≡ b → shows e ≡ o → live_by shows (filter p (e ∷ es)) ≡ filter (λ x. p x.0) (live_by shows (e ∷ es))
    step rest true (Some r) is at = simp (is, at) (ap (λ (xs : List (Entry × Rec)). (e, r) ∷ xs) rest)
    step rest true None is at = simp (is, at) rest
    step rest false (Some r) is at = simp (is, at) rest
    step rest false None is at = simp (is, at) rest

-- the record that an entry shows is live with it
pub live_contained : (shows : Entry → Option Rec) (es : List Entry) (e : Entry) (r : Rec) → Contains es e → shows e ≡ Some r → Contains (live_by shows es) (e, r)
live_contained shows [] e r h at = absurd (omega (arith, h.1))
live_contained shows (x ∷ es) e r h at = by_place (λ rest. live_contained shows es e r rest at) h.0 h.1 h.2
  where
    behind : (o : Option Rec) → shows x ≡ o → Contains (live_by shows es) (e, r) → Contains (live_by shows (x ∷ es)) (e, r)
    behind (Some y) is rest = subst (λ (o : Option Rec). Contains (cons_option (option_map (λ r. (x, r)) o) (live_by shows es)) (e, r)) (sym is) (Contains-append_right ((x, y) ∷ []) (live_by shows es) (e, r) rest)
    behind None is rest = subst (λ (o : Option Rec). Contains (cons_option (option_map (λ r. (x, r)) o) (live_by shows es)) (e, r)) (sym is) rest

    by_place : (Contains es e → Contains (live_by shows es) (e, r)) → (i : ℕ) → i < length (x ∷ es) → get_or (x ∷ es) i e ≡ e → Contains (live_by shows (x ∷ es)) (e, r)
    by_place later zero lt is =
        subst (λ (o : Option Rec). Contains (cons_option (option_map (λ r. (x, r)) o) (live_by shows es)) (e, r)) (sym (ap shows is ∙ at))
        (0, omega arith, ap (λ (y : Entry). let p : Entry × Rec = (y, r) in p) is)
    by_place later (suc i) lt is = behind (shows x) refl (later (i, omega (arith, lt), is))

-- the same of a log of which no other part changes
pub live_on-kept : (held : ℕ → Option (List ℕ)) (k : LogState) (p : Entry → Bool) → live_on held (with_list k (filter p k.entries)) ≡ filter (λ x. p x.0) (live_on held k)
unfolding shown
live_on-kept held k p = live_by-kept p _ k.entries

-- entries of which some are lowered are live as they were, but for that
pub live_by-lowered : (p : Entry → Bool) (shows : Entry → Option Rec) (es : List Entry) → ((e : Entry) → shows (lowered e) ≡ shows e)
    → live_by shows (with_lowered p es) ≡ map (λ x. (cond (p x.0) (lowered x.0) x.0, x.1)) (live_by shows es)
live_by-lowered p shows [] same = refl
live_by-lowered p shows (e ∷ es) same = step (live_by-lowered p shows es same) (p e) (shows e) refl refl
  where
    step : live_by shows (with_lowered p es) ≡ map (λ x. (cond (p x.0) (lowered x.0) x.0, x.1)) (live_by shows es) → (b : Bool) (o : Option Rec) → p e ≡ b → shows e ≡ o → live_by shows (with_lowered p (e ∷ es)) ≡ map (λ x. (cond (p x.0) (lowered x.0) x.0, x.1)) (live_by shows (e ∷ es))
    step rest true (Some r) is at = simp (is, same e, at) (ap (λ (xs : List (Entry × Rec)). (lowered e, r) ∷ xs) rest)
    step rest true None is at = simp (is, same e, at) rest
    step rest false (Some r) is at = simp (is, at) (ap (λ (xs : List (Entry × Rec)). (e, r) ∷ xs) rest)
    step rest false None is at = simp (is, at) rest

-- the same of a log of which no other part changes
pub live_on-lowered : (held : ℕ → Option (List ℕ)) (k : LogState) (p : Entry → Bool) → live_on held (with_list k (with_lowered p k.entries)) ≡ map (λ x. (cond (p x.0) (lowered x.0) x.0, x.1)) (live_on held k)
unfolding shown
live_on-lowered held k p = live_by-lowered p _ k.entries (λ e. refl)

-- what is kept of a list is no longer
pub length-kept : (p : Entry → Bool) (es : List Entry) → length (filter p es) ≤ length es
length-kept p [] = omega arith
length-kept p (e ∷ es) =
    cond_both (p e) (e ∷ filter p es) (filter p es) (λ ys. length ys ≤ length (e ∷ es)) (λ _. omega (arith, length-kept p es)) (λ _. omega (arith, length-kept p es))

-- what holds of all entries, and of each of them lowered, holds of all if some are lowered
pub All-lowered : (p : Entry → Bool) (P : Entry → Type 0) → ((e : Entry) → P e → P (lowered e)) → (es : List Entry) → All P es → All P (with_lowered p es)
All-lowered p P keeps [] h = All-nil P
All-lowered p P keeps (e ∷ es) h =
    All-cons P (cond (p e) (lowered e) e) (with_lowered p es)
    (cond_both (p e) (lowered e) e P (λ _. keeps e (All-head P e es h)) (λ _. All-head P e es h))
    (All-lowered p P keeps es (All-tail P e es h))

-- an entry lies where it lay when some are lowered
place_lowered : (p : Entry → Bool) (es : List Entry) (i : ℕ) (d : Entry) → i < length es → (get_or (with_lowered p es) i d).place ≡ (get_or es i d).place
place_lowered p [] i d lt = absurd (omega (arith, lt))
place_lowered p (e ∷ es) zero d lt = cond_both (p e) (lowered e) e (λ x. x.place ≡ e.place) (λ _. refl) (λ _. refl)
place_lowered p (e ∷ es) (suc i) d lt = place_lowered p es i d (omega (arith, lt))

-- so they stand in order as they stood
ordered_lowered : (k : LogState) (p : Entry → Bool) (es : List Entry) → AreOrdered k es → AreOrdered k (with_lowered p es)
ordered_lowered k p es h = λ i j d lt within.
    let to : j < length es = omega (arith, within, length-with_lowered p es) in
    subst (λ (x : Place). IsBehind k x (get_or (with_lowered p es) j d).place) (sym (place_lowered p es i d (omega (arith, lt, to))))
    (subst (λ (y : Place). IsBehind k (get_or es i d).place y) (sym (place_lowered p es j d to)) (h i j d lt to))

-- a log with other entries, each of them held, in order, and no more than it may have, is a log
pub log_with : (k : LogState) (es : List Entry) → IsLog k → All (IsHeld k) es → AreOrdered k es → length es ≤ k.shape.limit → IsLog (with_list k es)
log_with k es h held ordered few = record {
  some_sets = h.some_sets;
  few_sets = h.few_sets;
  some_segments = h.some_segments;
  few_segments = h.few_segments;
  some_pages = h.some_pages;
  few_pages = h.few_pages;
  held = All-weaker (IsHeld k) (IsHeld (with_list k es)) (λ e q. record { set = q.set; name = q.name; page = q.page; segment = q.segment; filled = q.filled }) es held;
  ordered = ordered;
  few_entries = few;
  stored_fits = h.stored_fits;
  filling_fits = h.filling_fits;
  flushing_fits = h.flushing_fits;
  numbers = h.numbers;
  numbered = h.numbered;
  flushing_left = h.flushing_left;
  flushing_free = h.flushing_free;
}

-- a log of which some entries are kept is a log
pub log_kept : (k : LogState) (p : Entry → Bool) → IsLog k → IsLog (with_list k (filter p k.entries))
log_kept k p h = log_with k (filter p k.entries) h (All-filter p (IsHeld k) k.entries h.held) (AllPairs-filter (λ a b. IsBehind k a.place b.place) p k.entries h.ordered) (omega (arith, length-kept p k.entries, h.few_entries))

-- a log of which some entries are lowered is a log
pub log_lowered : (k : LogState) (p : Entry → Bool) → IsLog k → IsLog (with_list k (with_lowered p k.entries))
log_lowered k p h =
    log_with k (with_lowered p k.entries) h
    (All-lowered p (IsHeld k) (λ e q. record { set = q.set; name = q.name; page = q.page; segment = q.segment; filled = q.filled }) k.entries h.held)
    (ordered_lowered k p k.entries h.ordered)
    (omega (arith, length-with_lowered p k.entries, h.few_entries))

-- what may stand for an entry may stand for it if it is lowered
can_stand_for_some : (bytes : ℕ) (shape : Shape) (e : Entry) (o : Option Rec) → IsSomeAnd o (CanStandFor bytes shape e) → IsSomeAnd o (CanStandFor bytes shape (lowered e))
can_stand_for_some bytes shape e (Some r) h = record { set_is = h.set_is; tag_is = h.tag_is; small = h.small; lawful = h.lawful }
can_stand_for_some bytes shape e None h = h

live_lowered : (bytes : ℕ) (pages : ℕ → Option (List ℕ)) (k : LogState) (e : Entry) → IsLive bytes pages k e → IsLive bytes pages k (lowered e)
unfolding shown
live_lowered bytes pages k e h = can_stand_for_some bytes k.shape e _ h

-- the entries that are kept of a log are spelled as they were
pub spelled_kept : (bytes : ℕ) (held : ℕ → Option (List ℕ)) (k : LogState) (p : Entry → Bool) → IsSpelledOn bytes held k → IsSpelledOn bytes held (with_list k (filter p k.entries))
unfolding shown
spelled_kept bytes held k p h = record {
  live = All-filter p (IsLive bytes (pages_from k.shape.sets held) k) k.entries h.live;
  flushed = All-filter p (IsFlushed bytes (pages_from k.shape.sets held) k) k.entries h.flushed;
}

-- lowered entries of a log are spelled as they were
pub spelled_lowered : (bytes : ℕ) (held : ℕ → Option (List ℕ)) (k : LogState) (p : Entry → Bool) → IsSpelledOn bytes held k → IsSpelledOn bytes held (with_list k (with_lowered p k.entries))
unfolding shown
spelled_lowered bytes held k p h = record {
  live = All-lowered p (IsLive bytes (pages_from k.shape.sets held) k) (λ e q. live_lowered bytes (pages_from k.shape.sets held) k e q) k.entries h.live;
  flushed = All-lowered p (IsFlushed bytes (pages_from k.shape.sets held) k) (λ e q. q) k.entries h.flushed;
}

-- entries are live alike if each shows the same
pub live_by-same : (shows shows' : Entry → Option Rec) (es : List Entry) → All (λ e. shows' e ≡ shows e) es → live_by shows' es ≡ live_by shows es
live_by-same shows shows' [] same = refl
live_by-same shows shows' (e ∷ es) same =
    let now : shows' e ≡ shows e = All-head (λ e. shows' e ≡ shows e) e es same in
    ap (λ (o : Option Rec). cons_option (option_map (λ r. (e, r)) o) (live_by shows' es)) now
    ∙ ap (λ (xs : List (Entry × Rec)). cons_option (option_map (λ r. (e, r)) (shows e)) xs) (live_by-same shows shows' es (All-tail (λ e. shows' e ≡ shows e) e es same))
