-- Lists of what calls of some kind are, as they grow and are sorted.
use Rattle.std.proofs.Common.{◌≡◌, ◌≢◌, ℕ, ◌+◌, ◌<◌, eqb, Some, List, [], ◌∷◌, ◌++◌, length, get_or, sym, ap, ◌∙◌, subst, arith, inl, inr}
use Rattle.std.specs.Prelude.{All, AllPairs, Bool, Contains, IsTrue, slice_get, map}
use Rattle.std.specs.List.Sorted.{IsPermutation}
use Rattle.std.proofs.lemmas.Bool.{cases_eq}
use Rattle.std.proofs.lemmas.Bool.Decides.{Decides-eqb, nat_tests}
use Rattle.std.proofs.lemmas.List.{get_or-map, length-map, length_push}
use Rattle.std.proofs.lemmas.List.Elements.{All-nil, All-push, All-weaker, Contains-push, Contains-append_left}
use Rattle.std.proofs.lemmas.List.Quantifiers.{all_pairs_push}
use Rattle.std.proofs.lemmas.List.Sorted.{All-permutation, Contains-permutation, IsPermutation-map, length_permutation}
use Rattle.std.proofs.lemmas.Map.Keys.{IsDistinct-IsPermutation}
use Rattle.std.proofs.lemmas.Map.Made.{AllPairs-from_IsDistinct, IsDistinct-from_AllPairs}
use Rattle.std.proofs.lemmas.Option.{get_or_from_slice_get, slice_get_within, same_Some, slice_get-get_or}
use Rattle.certificate_finder.specs.declared.numbered_call.NumberedCall.{NumberedCall}
use Rattle.certificate_finder.specs.Lists.{TellsOne, Lists, AreAllBelow, AreApart, GrowsBy, GrowsIf}

-- what holds of each element holds of the one at an index
pub all_at : {X : Type 0} (P : X → Type 0) (xs : List X) (k : ℕ) (x : X) → All P xs → slice_get xs k ≡ Some x → P x
all_at P xs k x all at = subst P (get_or_from_slice_get xs k x x at) (all k x (slice_get_within xs k x at))

-- what holds of the element at each index holds of all
pub all_from_at : {X : Type 0} (P : X → Type 0) (xs : List X) → ((k : ℕ) (x : X) → slice_get xs k ≡ Some x → P x) → All P xs
all_from_at P xs each = λ k d less. each k (get_or xs k d) (slice_get-get_or xs k d less)

-- what holds of each pair holds of those at two indexes
pub pair_at : {X : Type 0} (R : X → X → Type 0) (xs : List X) (i j : ℕ) (x y : X) → AllPairs R xs → i < j → slice_get xs i ≡ Some x → slice_get xs j ≡ Some y → R x y
pair_at R xs i j x y all less one other =
    subst (λ b. R x b) (get_or_from_slice_get xs j y x other) (subst (λ a. R a (get_or xs j x)) (get_or_from_slice_get xs i x x one) (all i j x less (slice_get_within xs j y other)))

pub pairs_from_at : {X : Type 0} (R : X → X → Type 0) (xs : List X) → ((i j : ℕ) (x y : X) → i < j → slice_get xs i ≡ Some x → slice_get xs j ≡ Some y → R x y) → AllPairs R xs
pairs_from_at R xs each = λ i j d less within. each i j (get_or xs i d) (get_or xs j d) less (slice_get-get_or xs i d (omega arith)) (slice_get-get_or xs j d within)

-- an element has an index, and what is at an index is an element
pub index_of : {X : Type 0} (xs : List X) (x : X) → Contains xs x → (k : ℕ) × (slice_get xs k ≡ Some x)
index_of xs x has = (has.0, slice_get-get_or xs has.0 x has.1 ∙ ap Some has.2)

pub contains_at : {X : Type 0} (xs : List X) (k : ℕ) (x : X) → slice_get xs k ≡ Some x → Contains xs x
contains_at xs k x at = (k, slice_get_within xs k x at, get_or_from_slice_get xs k x x at)

-- two elements at one index are the same
pub same_at : {X : Type 0} (xs : List X) (i j : ℕ) (x y : X) → i ≡ j → slice_get xs i ≡ Some x → slice_get xs j ≡ Some y → x ≡ y
same_at xs i j x y same one other = same_Some x y (sym one ∙ ap (slice_get xs) same ∙ other)

module _ {X : Type 0} (steps : List NumberedCall) (wanted : NumberedCall → Type 0) (tells : ℕ → NumberedCall → X → Type 0) where
  pub lists_none : Lists steps wanted tells 0 []
  lists_none = record { few = omega arith; sound = All-nil (TellsOne steps wanted tells); complete = λ p s less at want. absurd (omega arith) }

  pub lists_push : (upto : ℕ) (items : List X) (step : NumberedCall) (item : X) → Lists steps wanted tells upto items → slice_get steps upto ≡ Some step → wanted step → tells upto step item → Lists steps wanted tells (upto + 1) (items ++ item ∷ [])
  lists_push upto items step item had at is told = record {
    few = let l = length_push items item in let f = had.few in omega arith;
    sound = All-push (TellsOne steps wanted tells) items item had.sound (record { position = upto; step = step; at = at; is_wanted = is; told = told });
    complete = λ p s less found want. elim (cases_eq p upto) [
      | inl same ↦ record {
        item = item;
        listed = Contains-push items item;
        told = subst (λ t. tells p t item) (same_at steps upto p step s (sym same) at found) (subst (λ q. tells q step item) (sym same) told);
      }
      | inr other ↦
          let old = had.complete p s (omega arith) found want in
          record { item = old.item; listed = Contains-append_left items (item ∷ []) old.item old.listed; told = old.told }
    ];
  }

  pub lists_pass : (upto : ℕ) (items : List X) (step : NumberedCall) → Lists steps wanted tells upto items → slice_get steps upto ≡ Some step → ¬ wanted step → Lists steps wanted tells (upto + 1) items
  lists_pass upto items step had at not = record {
    few = let f = had.few in omega arith;
    sound = had.sound;
    complete = λ p s less found want. elim (cases_eq p upto) [
      | inl same ↦ absurd (not (subst wanted (sym (same_at steps upto p step s (sym same) at found)) want))
      | inr other ↦ had.complete p s (omega arith) found want
    ];
  }

  pub lists_permuted : (upto : ℕ) (xs ys : List X) → IsPermutation xs ys → Lists steps wanted tells upto xs → Lists steps wanted tells upto ys
  lists_permuted upto xs ys moved had = record {
    few = let l = length_permutation xs ys moved in let f = had.few in omega arith;
    sound = All-permutation (TellsOne steps wanted tells) xs ys moved had.sound;
    complete = λ p s less found want.
        let old = had.complete p s less found want in
        record { item = old.item; listed = Contains-permutation xs ys old.item moved old.listed; told = old.told };
  }

module _ {X : Type 0} (place : X → ℕ) where
  pub apart_none : AreApart place 0 []
  apart_none = record { below = All-nil (λ x. place x < 0); distinct = λ i j d less within. absurd (omega arith) }

  pub apart_pass : (upto : ℕ) (items : List X) → AreApart place upto items → AreApart place (upto + 1) items
  apart_pass upto items had = record {
    below = All-weaker (λ x. place x < upto) (λ x. place x < upto + 1) (λ x h. omega arith) items had.below;
    distinct = had.distinct;
  }

  pub apart_push : (upto : ℕ) (items : List X) (item : X) → AreApart place upto items → place item ≡ upto → AreApart place (upto + 1) (items ++ item ∷ [])
  apart_push upto items item had at = record {
    below = All-push (λ x. place x < upto + 1) items item (apart_pass upto items had).below (omega arith);
    distinct = all_pairs_push (λ a b. place a ≢ place b) items item had.distinct (λ k d less same. let b : place (get_or items k d) < upto = had.below k d less in absurd (omega arith));
  }

  map_distinct : (xs : List X) → AllPairs (λ a b. place a ≢ place b) xs → AllPairs (λ x y. x ≢ y) (map place xs)
  map_distinct [] h = λ i j d less within. absurd (omega arith)
  map_distinct (x ∷ xs) h = λ i j d less within same.
      let len : length (map place (x ∷ xs)) ≡ length (x ∷ xs) = length-map (x ∷ xs) place in
      let one = get_or-map place (x ∷ xs) i x d (omega (arith, len)) in
      let other = get_or-map place (x ∷ xs) j x d (omega (arith, len)) in
      h i j x less (omega (arith, len)) (sym one ∙ same ∙ other)

  unmap_distinct : (xs : List X) → AllPairs (λ x y. x ≢ y) (map place xs) → AllPairs (λ a b. place a ≢ place b) xs
  unmap_distinct xs h = λ i j d less within same.
      let len : length (map place xs) ≡ length xs = length-map xs place in
      let one = get_or-map place xs i d (place d) (omega arith) in
      let other = get_or-map place xs j d (place d) within in
      h i j (place d) less (omega (arith, len)) (one ∙ same ∙ sym other)

  flips : (x y : ℕ) → eqb x y ≡ eqb y x
  flips x y = grind (arith, nat_tests)

  pub distinct_permuted : (xs ys : List X) → IsPermutation xs ys → AllPairs (λ a b. place a ≢ place b) xs → AllPairs (λ a b. place a ≢ place b) ys
  distinct_permuted xs ys moved h =
      let one = IsDistinct-from_AllPairs Decides-eqb (map place xs) (map_distinct xs h) in
      let other = IsDistinct-IsPermutation eqb flips (map place xs) (map place ys) (IsPermutation-map place xs ys moved) one in
      unmap_distinct ys (AllPairs-from_IsDistinct Decides-eqb (map place ys) other)

-- ---- a list that grows by a call, if it is wanted

module _ {X : Type 0} (steps : List NumberedCall) (wanted : NumberedCall → Type 0) (tells : ℕ → NumberedCall → X → Type 0) where
  pub lists_grow : (upto : ℕ) (old new : List X) (step : NumberedCall) → Lists steps wanted tells upto old → slice_get steps upto ≡ Some step → GrowsBy wanted tells upto step old new → Lists steps wanted tells (upto + 1) new
  lists_grow upto old new step had at grows = elim grows [
    | inl more ↦ subst (λ items. Lists steps wanted tells (upto + 1) items) (sym more.1.2) (lists_push steps wanted tells upto old step more.1.0 had at more.0 more.1.1)
    | inr same ↦ subst (λ items. Lists steps wanted tells (upto + 1) items) (sym same.1) (lists_pass steps wanted tells upto old step had at same.0)
  ]

pub apart_grows : {X : Type 0} (place : X → ℕ) (wanted : NumberedCall → Type 0) (tells : ℕ → NumberedCall → X → Type 0) (upto : ℕ) (old new : List X) (step : NumberedCall) → AreApart place upto old → ((item : X) → tells upto step item → place item ≡ upto) → GrowsBy wanted tells upto step old new → AreApart place (upto + 1) new
apart_grows place wanted tells upto old new step had at grows = elim grows [
  | inl more ↦ subst (λ items. AreApart place (upto + 1) items) (sym more.1.2) (apart_push place upto old more.1.0 had (at more.1.0 more.1.1))
  | inr same ↦ subst (λ items. AreApart place (upto + 1) items) (sym same.1) (apart_pass place upto old had)
]

-- growing by items of which more is known
pub grows_weaker : {X : Type 0} (wanted : NumberedCall → Type 0) (tells knows : ℕ → NumberedCall → X → Type 0) (p q : ℕ) (step : NumberedCall) (old new : List X) → ((item : X) → tells p step item → knows q step item) → GrowsBy wanted tells p step old new → GrowsBy wanted knows q step old new
grows_weaker wanted tells knows p q step old new more grows = elim grows [
  | inl one ↦ inl (one.0, (one.1.0, more one.1.0 one.1.1, one.1.2))
  | inr same ↦ inr same
]

-- ---- all positions of which a fact holds

module _ (P : ℕ → Type 0) where
  pub all_below_none : AreAllBelow P 0 []
  all_below_none = record {
    each = All-nil P;
    all = λ p less holds. absurd (omega arith);
    rise = λ i j d less within. absurd (omega arith);
    below = All-nil (λ p. p < 0);
  }

  pub all_below_pass : (upto : ℕ) (positions : List ℕ) → AreAllBelow P upto positions → ¬ P upto → AreAllBelow P (upto + 1) positions
  all_below_pass upto positions had not = record {
    each = had.each;
    all = λ p less holds. elim (cases_eq p upto) [
      | inl same ↦ absurd (not (subst P same holds))
      | inr other ↦ had.all p (omega arith) holds
    ];
    rise = had.rise;
    below = All-weaker (λ p. p < upto) (λ p. p < upto + 1) (λ p h. omega arith) positions had.below;
  }

  pub all_below_push : (upto : ℕ) (positions : List ℕ) → AreAllBelow P upto positions → P upto → AreAllBelow P (upto + 1) (positions ++ upto ∷ [])
  all_below_push upto positions had is = record {
    each = All-push P positions upto had.each is;
    all = λ p less holds. elim (cases_eq p upto) [
      | inl same ↦ subst (λ q. Contains (positions ++ upto ∷ []) q) (sym same) (Contains-push positions upto)
      | inr other ↦ Contains-append_left positions (upto ∷ []) p (had.all p (omega arith) holds)
    ];
    rise = all_pairs_push (λ a b. a < b) positions upto had.rise (λ k d less. had.below k d less);
    below = All-push (λ p. p < upto + 1) positions upto (All-weaker (λ p. p < upto) (λ p. p < upto + 1) (λ p h. omega arith) positions had.below) (omega arith);
  }

  -- one position more, if a test says that the fact holds of it
  pub all_below_if : (test : Bool) (upto : ℕ) (old new : List ℕ) → AreAllBelow P upto old → GrowsIf test upto old new → (IsTrue test → P upto) → (P upto → IsTrue test) → AreAllBelow P (upto + 1) new
  all_below_if test upto old new had grows sound complete = elim grows [
    | inl more ↦ subst (λ ps. AreAllBelow P (upto + 1) ps) (sym more.1) (all_below_push upto old had (sound more.0))
    | inr same ↦ subst (λ ps. AreAllBelow P (upto + 1) ps) (sym same.1) (all_below_pass upto old had (λ holds. same.0 (complete holds)))
  ]
