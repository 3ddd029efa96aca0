-- What is said of the oldest segment, in terms of the list of segments.
use Rattle.std.proofs.Common.{◌≡◌, ◌≢◌, ℕ, zero, suc, ◌+◌, ◌<◌, Bool, true, false, cond, eqb, List, [], ◌∷◌, ◌++◌, length, get_or, filter, map, reverse, Option, Some, None, All, Contains, slice_get, refl, sym, ap, subst, ◌∙◌, inl, inr, arith}
use Rattle.std.specs.Prelude.{AllPairs, IsSomeAnd}
use Rattle.std.specs.List.{flat_map, range_with_len}
use Rattle.std.proofs.lemmas.Bool.{and_parts, and_from, and_left, eqb-true, eq-eqb, ne_eqb, false_from_ne_true}
use Rattle.std.proofs.lemmas.List.{reverse-append}
use Rattle.std.proofs.lemmas.List.Elements.{All-head, All-tail, All-contains}
use Rattle.std.proofs.lemmas.List.FromFn.{get_or-map-range_with_len}
use Rattle.record_pages.specs.Recs.{Rec}
use Rattle.klog_index.specs.declared.entry.Entry.{Entry}
use Rattle.klog_index.specs.Entries.{is_of_any, is_on, without}
use Rattle.klog_index.specs.First.{NoneOfSegment, IsFirstOf}
use Rattle.klog.specs.declared.oldest.Oldest.TheVariants as oldest
use Rattle.klog.specs.Log.{LogState}
use Rattle.klog.specs.Names.{name_of, number_of, segment_of}
use Rattle.klog.specs.Shown.{shown_on, live_on, CanStandFor, IsLiveOn}
use Rattle.klog.specs.Keeps.{IsHeld, IsBehind, IsLog}
use Rattle.klog.specs.Segments.{LogRecord, live_record, live_page, stored_segment, segments_of, is_live, live_in}
use Rattle.klog.specs.Steps.{on_page}
use Rattle.klog.specs.AnswerLaws.{IsFirstIn, OldestTellsFirst}
use Rattle.klog.proofs.LiveLaws.{live_contained}
use Rattle.klog.proofs.RingLaws.{number_again}
use Rattle.klog.proofs.PlaceLaws.{All-live}
use Rattle.klog.proofs.ListedLaws.{live_ordered}

-- ---- lists

kept-none : {X : Type 0} (p : X → Bool) (xs : List X) → All (λ x. p x ≡ false) xs → filter p xs ≡ []
kept-none p [] none = refl
kept-none p (x ∷ xs) none =
    ap (λ (b : Bool). cond b (x ∷ filter p xs) (filter p xs)) (All-head (λ x. p x ≡ false) x xs none)
    ∙ kept-none p xs (All-tail (λ x. p x ≡ false) x xs none)

-- one that is kept comes last of those that are kept, if none of them follows it
kept-last : {X : Type 0} (R : X → X → Type 0) (p : X → Bool) (x : X) (xs : List X) → AllPairs R xs → All (λ y. p y ≡ true → R x y → ⊥) xs → p x ≡ true → Contains xs x
    → (front : List X) × (filter p xs ≡ front ++ x ∷ [])
kept-last R p x [] pairs least is there = absurd (omega (arith, there.1))
kept-last R p x (y ∷ xs) pairs least is there =
    by_place there.0 there.1 there.2
    (λ later. kept-last R p x xs (λ i j d a b. pairs (suc i) (suc j) d (omega (arith, a)) (omega (arith, b))) (All-tail (λ y. p y ≡ true → R x y → ⊥) y xs least) is later)
  where
    one_more : (b : Bool) (front : List _) → filter p xs ≡ front ++ x ∷ [] → (before : List _) × (cond b (y ∷ filter p xs) (filter p xs) ≡ before ++ x ∷ [])
    one_more true front at = (y ∷ front, ap (λ (ys : List _). y ∷ ys) at)
    one_more false front at = (front, at)

    by_place : (i : ℕ) → i < length (y ∷ xs) → get_or (y ∷ xs) i x ≡ x → (Contains xs x → (front : List _) × (filter p xs ≡ front ++ x ∷ [])) → (front : List _) × (filter p (y ∷ xs) ≡ front ++ x ∷ [])
    by_place zero lt at rest =
        let none : All (λ z. p z ≡ false) xs =
        λ i d lt'. false_from_ne_true (p (get_or xs i d)) (λ on. least (suc i) d (omega (arith, lt')) on (subst (λ (z : _). R z (get_or xs i d)) at (pairs 0 (suc i) d (omega arith) (omega (arith, lt'))))) in
        ([], ap (λ (b : Bool). cond b (y ∷ filter p xs) (filter p xs)) (ap p at ∙ is) ∙ ap (λ (ys : List _). y ∷ ys) (kept-none p xs none) ∙ ap (λ (z : _). z ∷ []) at)
    by_place (suc i) lt at rest = let found = rest (i, omega (arith, lt), at) in one_more (p y) found.0 found.1

-- ---- the pages of a segment

flat-none : {X : Type 0} (f : ℕ → List X) (a n : ℕ) → ((i : ℕ) → f i ≡ []) → flat_map (λ page. page) (map f (range_with_len a n)) ≡ []
flat-none f a zero none = refl
flat-none f a (suc n) none = ap (λ (ys : List _). ys ++ flat_map (λ page. page) (map f (range_with_len (a + 1) n))) (none a) ∙ flat-none f (a + 1) n none

first-stored : {X : Type 0} (f : ℕ → X) (a n : ℕ) → 0 < n → slice_get (map f (range_with_len a n)) 0 ≡ Some (f a)
first-stored f a zero some = absurd (omega (arith, some))
first-stored f a (suc n) some = refl

known_one : (o : Option Rec) (P : Rec → Type 0) → IsSomeAnd o P → (r : Rec) × (o ≡ Some r)
known_one (Some r) P h = (r, refl)
known_one None P h = absurd h

-- the name of the oldest segment
abbrev oldest_name : LogState → ℕ
oldest_name k = name_of k k.first

-- a page of it on which no entry lies has no live record
page_empty : (held : ℕ → Option (List ℕ)) (k : LogState) (page : ℕ) → All (λ e. is_on (oldest_name k) page e ≡ false) k.entries → live_page (live_on held k) (oldest_name k) page ≡ []
page_empty held k page none =
    ap (λ (xs : List (Entry × Rec)). map live_record (reverse xs))
    (kept-none (λ x. is_on (oldest_name k) page x.0) (live_on held k) (All-live (λ e. is_on (oldest_name k) page e ≡ false) (shown_on held k) k.entries none))

none_live : (held : ℕ → Option (List ℕ)) (k : LogState) → NoneOfSegment (oldest_name k) k.entries → live_in (stored_segment held k k.first) ≡ []
none_live held k none =
    ap (filter is_live) (flat-none (live_page (live_on held k) (oldest_name k)) 0 k.shape.segment_pages
    (λ page. page_empty held k page (λ i d lt. and_left (eqb (get_or k.entries i d).place.segment (oldest_name k)) (eqb (get_or k.entries i d).place.page page) (ne_eqb (get_or k.entries i d).place.segment (oldest_name k) (none i d lt)))))

-- what lies on a page
on_parts : (name page : ℕ) (e : Entry) → is_on name page e ≡ true → (e.place.segment ≡ name) × (e.place.page ≡ page)
on_parts name page e is =
    let both = and_parts (eqb e.place.segment name) (eqb e.place.page page) is in
    (eqb-true e.place.segment name both.0, eqb-true e.place.page page both.1)

on_from : (name : ℕ) (e : Entry) → e.place.segment ≡ name → is_on name e.place.page e ≡ true
on_from name e at = and_from (eqb e.place.segment name) (eqb e.place.page e.place.page) (eq-eqb e.place.segment name at) (eq-eqb e.place.page e.place.page refl)

-- the pages of it, by their numbers
page_there : (held : ℕ → Option (List ℕ)) (k : LogState) (page : ℕ) → page < k.shape.segment_pages → on_page (stored_segment held k k.first).pages page ≡ live_page (live_on held k) (oldest_name k) page
page_there held k page lt = get_or-map-range_with_len (live_page (live_on held k) (oldest_name k)) 0 k.shape.segment_pages page page [] lt (omega arith)

-- no page before that of its first entry has a live record
before_first : (held : ℕ → Option (List ℕ)) (k : LogState) (e : Entry) → IsFirstOf (oldest_name k) k.entries e → (page : ℕ) → page < e.place.page → live_page (live_on held k) (oldest_name k) page ≡ []
before_first held k e its page less =
    page_empty held k page
    (λ i d lt. false_from_ne_true (is_on (oldest_name k) page (get_or k.entries i d))
    (λ on.
    let at = on_parts (oldest_name k) page (get_or k.entries i d) on in
    its.least i d lt at.0 (inl (omega (arith, at.1, less)))))

-- and none of its own page lies before it
none_behind : (held : ℕ → Option (List ℕ)) (k : LogState) (e : Entry) → IsFirstOf (oldest_name k) k.entries e
    → All (λ y. is_on (oldest_name k) e.place.page y.0 ≡ true → IsBehind k e.place y.0.place → ⊥) (live_on held k)
none_behind held k e its =
    All-live (λ a. is_on (oldest_name k) e.place.page a ≡ true → IsBehind k e.place a.place → ⊥) (shown_on held k) k.entries
    (λ i d lt on behind.
    let a : Entry = get_or k.entries i d in
    let named : a.place.segment ≡ oldest_name k = (on_parts (oldest_name k) e.place.page a on).0 in
    let same : number_of k a.place.segment ≡ number_of k e.place.segment = ap (number_of k) (named ∙ sym its.of_segment) in
    elim behind [ inl less ↦ absurd (omega (arith, less, same)) | inr at ↦ its.least i d lt named at.1 ])

-- so its record is the first of its page
first_of_page : (held : ℕ → Option (List ℕ)) (k : LogState) (e : Entry) (r : Rec) → IsLog k → shown_on held k e ≡ Some r → IsFirstOf (oldest_name k) k.entries e
    → (behind : List LogRecord) × (live_page (live_on held k) (oldest_name k) e.place.page ≡ live_record (e, r) ∷ behind)
first_of_page held k e r log shows its =
    let last = kept-last (λ x y. IsBehind k x.0.place y.0.place) (λ x. is_on (oldest_name k) e.place.page x.0) (e, r) (live_on held k) (live_ordered held k log) (none_behind held k e its) (on_from (oldest_name k) e its.of_segment) (live_contained (shown_on held k) k.entries e r its.listed shows) in (
      map live_record (reverse last.0),
      ap (λ (xs : List (Entry × Rec)). map live_record (reverse xs)) last.1 ∙ ap (map live_record) (reverse-append last.0 ((e, r) ∷ [])),
    )

first_in : (held : ℕ → Option (List ℕ)) (k : LogState) (e : Entry) (r : Rec) → IsLog k → shown_on held k e ≡ Some r → IsFirstOf (oldest_name k) k.entries e
    → IsFirstIn (stored_segment held k k.first) e.place.page (live_record (e, r))
first_in held k e r log shows its =
    let within : e.place.page < k.shape.segment_pages = (All-contains (IsHeld k) k.entries e log.held its.listed).page in
    let own = first_of_page held k e r log shows its in
    record {
      pages_before = λ page less. ap (filter is_live) (page_there held k page (omega (arith, less, within)) ∙ before_first held k e its page less);
      behind = filter is_live own.0;
      first = ap (filter is_live) (page_there held k e.place.page within ∙ own.1);
    }

-- the entry is of that segment
of_first : (k : LogState) (e : Entry) → IsFirstOf (oldest_name k) k.entries e → segment_of k e ≡ k.first
of_first k e its = ap (number_of k) its.of_segment ∙ number_again k k.first (omega arith) (omega arith)

first_there : (held : ℕ → Option (List ℕ)) (k : LogState) → 0 < k.stored → slice_get (segments_of held k).stored 0 ≡ Some (stored_segment held k k.first)
first_there held k some = first-stored (stored_segment held k) k.first k.stored some

-- if no set is passed over, no entry is
none_passed : (es : List Entry) → without (is_of_any []) es ≡ es
none_passed [] = refl
none_passed (e ∷ es) = ap (λ (xs : List Entry). e ∷ xs) (none_passed es)

pub oldest_tells_first : OldestTellsFirst
oldest_tells_first bytes held k oldest.NoSegment log spelled none = ap (λ (n : ℕ). map (stored_segment held k) (range_with_len k.first n)) none
oldest_tells_first bytes held k oldest.Empty log spelled told = (stored_segment held k k.first, first_there held k told.0, none_live held k told.1)
oldest_tells_first bytes held k oldest.Passed log spelled told =
    All-contains (λ (e : Entry). e.place.segment ≢ oldest_name k) k.entries told.some.its (subst (NoneOfSegment (oldest_name k)) (none_passed k.entries) told.no_other) told.some.listed told.some.of_segment
oldest_tells_first bytes held k (oldest.First e) log spelled told =
    let its : IsFirstOf (oldest_name k) k.entries e = subst (λ (es : List Entry). IsFirstOf (oldest_name k) es e) (none_passed k.entries) told.1 in
    let known = known_one (shown_on held k e) (CanStandFor bytes k.shape e) (All-contains (IsLiveOn bytes held k) k.entries e spelled.live its.listed) in
    (stored_segment held k k.first, known.0, first_there held k told.0, of_first k e its, known.1, first_in held k e known.0 log known.1 its)
