-- Which entry is the first of the oldest segment.
use Rattle.std.proofs.Common.{◌≡◌, ◌⊎◌, inl, inr, ⊎_elim, ℕ, suc, ◌<◌, Bool, true, false, ◌&&◌, ◌||◌, eqb, not, cond, List, [], ◌∷◌, length, get_or, Some, None, All, Contains, refl, sym, ap, ◌∙◌, arith, ◌≢◌}
use Rattle.std.specs.Prelude.{find, nat_lt}
use Rattle.std.specs.List.{list_any}
use Rattle.std.proofs.lemmas.Bool.{and_from, and_parts, or_left, or_right, not_from_false, cases_lt, lt-ltb, ltb-true, eq-eqb, eqb-true, ne_eqb, false_from_ne_true, false≢true}
use Rattle.std.proofs.lemmas.List.{get_or_default}
use Rattle.std.proofs.lemmas.List.Elements.{All-contains}
use Rattle.std.proofs.lemmas.List.Folds.{list_any_none, list_any_at}
use Rattle.std.proofs.lemmas.List.Kept.{AllPairs-filter}
use Rattle.klog_index.specs.declared.entry.Entry.{Entry}
use Rattle.klog_index.specs.declared.place.Place.{Place}
use Rattle.klog_index.specs.Entries.{AreApart, is_of_any, is_of_segment, without}
use Rattle.klog_index.specs.First.{IsBefore, NoneOfSegment, IsFirstOf}
use Rattle.klog.specs.declared.oldest.Oldest.{Oldest}
use Rattle.klog.specs.declared.oldest.Oldest.TheVariants as oldest
use Rattle.klog.specs.Log.{LogState}
use Rattle.klog.specs.Names.{name_of}
use Rattle.klog.specs.Moves.{TellsOldest}
use Rattle.mover.specs.Oldest.{is_before, is_first, first_in, told_first, live_in, oldest_in}
use Rattle.mover.proofs.public_laws.Listing.{split, in_filter}

-- what alone passes a test is what is found
pub find_only : {X : Type 0} (p : X → Bool) (xs : List X) (x : X) → Contains xs x → p x ≡ true → ((y : X) → Contains xs y → p y ≡ true → y ≡ x) → find p xs ≡ Some x
find_only p [] x here passes only = let lt = here.1 in absurd (omega (arith, lt))
find_only {X} p (y ∷ ys) x here passes only =
    step (p y) refl (split x y ys here) (λ behind. find_only p ys x behind passes (λ z there. only z (let lt = there.1 in (suc there.0, omega arith, there.2))))
  where
    step : (b : Bool) → p y ≡ b → (y ≡ x) ⊎ Contains ys x → (Contains ys x → find p ys ≡ Some x) → cond b (Some y) (find p ys) ≡ Some x
    step true is at rest = ap Some (only y (0, omega arith, refl) is)
    step false is (inl first) rest = absurd (false≢true (sym is ∙ ap p first ∙ passes))
    step false is (inr behind) rest = rest behind

-- if nothing passes nothing is found
find_none : {X : Type 0} (p : X → Bool) (xs : List X) → All (λ x. p x ≡ false) xs → find p xs ≡ None
find_none p [] none = refl
find_none p (x ∷ xs) none = rw (none 0 x (omega arith)) (find_none p xs (λ i d lt. none (suc i) d (omega arith)))

-- entries of a list at one place are one
pub same_place : (es : List Entry) (a b : Entry) → AreApart es → Contains es a → Contains es b → a.place ≡ b.place → a ≡ b
same_place es a b apart at_a at_b same = ⊎_elim below (λ not_below. ⊎_elim above (λ not_above. level (omega (arith, not_below, not_above))) (cases_lt at_b.0 at_a.0)) (cases_lt at_a.0 at_b.0)
  where
    clash : (i j : ℕ) (x y d : Entry) → i < j → j < length es → get_or es i d ≡ x → get_or es j d ≡ y → x.place ≡ y.place → a ≡ b
    clash i j x y d lt within is_x is_y equal = absurd (apart i j d lt within (ap (λ (e : Entry). e.place) is_x ∙ equal ∙ sym (ap (λ (e : Entry). e.place) is_y)))

    at_b_too : get_or es at_b.0 a ≡ b
    at_b_too = get_or_default es at_b.0 a b at_b.1 ∙ at_b.2

    below : at_a.0 < at_b.0 → a ≡ b
    below lt = clash at_a.0 at_b.0 a b a lt at_b.1 at_a.2 at_b_too same

    above : at_b.0 < at_a.0 → a ≡ b
    above lt = clash at_b.0 at_a.0 b a a lt at_a.1 at_b_too at_a.2 (sym same)

    level : at_a.0 ≡ at_b.0 → a ≡ b
    level is = sym at_a.2 ∙ ap (λ i. get_or es i a) is ∙ at_b_too

-- the test of places is the relation
before_from : (p q : Place) → is_before p q ≡ true → IsBefore p q
before_from p q is = step (nat_lt p.page q.page) refl is
  where
    step : (b : Bool) → nat_lt p.page q.page ≡ b → (b || (eqb p.page q.page && nat_lt p.slot q.slot)) ≡ true → IsBefore p q
    step true lt e = inl (ltb-true p.page q.page lt)
    step false lt e = let both = and_parts (eqb p.page q.page) (nat_lt p.slot q.slot) e in inr (eqb-true p.page q.page both.0, ltb-true p.slot q.slot both.1)

before_to : (p q : Place) → IsBefore p q → is_before p q ≡ true
before_to p q (inl lt) = or_left (nat_lt p.page q.page) (eqb p.page q.page && nat_lt p.slot q.slot) (lt-ltb p.page q.page lt)
before_to p q (inr both) = or_right (nat_lt p.page q.page) (eqb p.page q.page && nat_lt p.slot q.slot) (and_from _ _ (eq-eqb p.page q.page both.0) (lt-ltb p.slot q.slot both.1))

-- places of a segment of which neither lies before the other are one
level : (p q : Place) → p.segment ≡ q.segment → (IsBefore p q → ⊥) → (IsBefore q p → ⊥) → p ≡ q
level p q segment not_before not_behind =
    let page : p.page ≡ q.page = ⊎_elim (λ lt. absurd (not_before (inl lt))) (λ ge. ⊎_elim (λ lt. absurd (not_behind (inl lt))) (λ le. omega (arith, ge, le)) (cases_lt q.page p.page)) (cases_lt p.page q.page) in
    let slot : p.slot ≡ q.slot = ⊎_elim (λ lt. absurd (not_before (inr (page, lt)))) (λ ge. ⊎_elim (λ lt. absurd (not_behind (inr (sym page, lt)))) (λ le. omega (arith, ge, le)) (cases_lt q.slot p.slot)) (cases_lt p.slot q.slot) in
    λ i. record { segment = segment i; page = page i; slot = slot i }

module _ (name : ℕ) (es : List Entry) (e : Entry) (is : IsFirstOf name es e) where
  -- the first entry passes the test
  passes : is_first name es e ≡ true
  passes = and_from _ _ (eq-eqb e.place.segment name is.of_segment) (not_from_false _ (list_any_none _ es (λ i d lt. earlier (get_or es i d) (is.least i d lt))))
    where
      earlier : (x : Entry) → (x.place.segment ≡ name → IsBefore x.place e.place → ⊥) → (eqb x.place.segment name && is_before x.place e.place) ≡ false
      earlier x least = false_from_ne_true _ (λ both. let parts = and_parts (eqb x.place.segment name) (is_before x.place e.place) both in least (eqb-true x.place.segment name parts.0) (before_from x.place e.place parts.1))

  -- no other one does
  only : AreApart es → (y : Entry) → Contains es y → is_first name es y ≡ true → y ≡ e
  only apart y listed test =
      let parts = and_parts (eqb y.place.segment name) (not (list_any (λ (x : Entry). eqb x.place.segment name && is_before x.place y.place) es)) test in
      let segment = eqb-true y.place.segment name parts.0 in
      same_place es y e apart listed is.listed (level y.place e.place (segment ∙ sym is.of_segment) (All-contains (λ (x : Entry). x.place.segment ≡ name → IsBefore x.place e.place → ⊥) es y is.least listed segment)
      (λ before. false≢true (sym (ap not (list_any_at (λ (x : Entry). eqb x.place.segment name && is_before x.place y.place) es is.listed.0 e is.listed.1
      (ap (λ (x : Entry). eqb x.place.segment name && is_before x.place y.place) is.listed.2 ∙ and_from _ _ (eq-eqb e.place.segment name is.of_segment) (before_to e.place y.place before)))) ∙ parts.1)))

  -- so it is found
  pub found_first : AreApart es → first_in name es ≡ Some e
  found_first apart = find_only (is_first name es) es e is.listed passes (only apart)

-- what is said of the oldest segment is what is in it
pub oldest_is : (passed : List ℕ) (k : LogState) (answer : Oldest) → AreApart k.entries → TellsOldest passed k answer → oldest_in passed k ≡ answer
oldest_is passed k answer apart = by_answer answer
  where
    name : ℕ
    name = name_of k k.first

    others : List Entry
    others = without (is_of_any passed) k.entries

    -- there is a segment, and this is said of it
    stored : {o : Oldest} → 0 < k.stored → live_in name passed k.entries ≡ o → oldest_in passed k ≡ o
    stored some is = rw (ne_eqb k.stored 0 (λ none. absurd (omega (arith, some, none)))) is

    -- some entry of it is live
    some_live : (e : Entry) → Contains k.entries e → e.place.segment ≡ name → list_any (is_of_segment name) k.entries ≡ true
    some_live e listed at = list_any_at (is_of_segment name) k.entries listed.0 e listed.1 (ap (is_of_segment name) listed.2 ∙ eq-eqb e.place.segment name at)

    none_first : NoneOfSegment name others → first_in name others ≡ None
    none_first none = find_none (is_first name others) others (λ i d lt. ap (λ b. b && not (list_any (λ (x : Entry). eqb x.place.segment name && is_before x.place (get_or others i d).place) others)) (ne_eqb _ _ (none i d lt)))

    by_answer : (answer : Oldest) → TellsOldest passed k answer → oldest_in passed k ≡ answer
    by_answer oldest.NoSegment tells = rw (eq-eqb k.stored 0 tells) refl
    by_answer oldest.Empty tells = stored tells.0 (rw (list_any_none (is_of_segment name) k.entries (λ i d lt. ne_eqb _ _ (tells.1 i d lt))) refl)
    by_answer oldest.Passed tells =
        stored tells.stored (rw (some_live tells.some.its tells.some.listed tells.some.of_segment) (ap told_first (none_first tells.no_other)))
    by_answer (oldest.First e) tells =
        let its : IsFirstOf name others e = tells.1 in
        let listed : Contains k.entries e = (in_filter (λ (x : Entry). not (is_of_any passed x)) k.entries e its.listed).0 in
        stored tells.0 (rw (some_live e listed its.of_segment) (ap told_first (found_first name others e its (AllPairs-filter (λ (a b : Entry). a.place ≢ b.place) (λ (x : Entry). not (is_of_any passed x)) k.entries apart))))
