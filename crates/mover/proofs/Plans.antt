-- Whether a plan fits, choice by choice.
use Rattle.std.proofs.Common.{◌≡◌, ◌≢◌, ◌<◌, ◌≤◌, ◌+◌, ℕ, Bool, true, false, ◌||◌, eqb, List, [], ◌∷◌, ◌++◌, zero, suc, replicate, length, take, get_or, set, Option, Some, None, refl, sym, ap, subst, ◌∙◌, arith}
use Rattle.std.specs.Prelude.{slice_get, sum_by}
use Rattle.std.specs.List.{list_any}
use Rattle.std.specs.Option.{option_map, option_map_or}
use Rattle.std.proofs.lemmas.Bool.{eq-eqb, eqb-true, eqb-false, or_right, false≢true}
use Rattle.std.proofs.lemmas.List.{get_or-set_other, get_or-set_same, get_or-take, take_all, take_more, length-take}
use Rattle.std.proofs.lemmas.List.Elements.{All-push}
use Rattle.std.proofs.lemmas.List.Folds.{list_any-append, list_any_at, Any-from_list_any}
use Rattle.std.proofs.lemmas.List.Quantifiers.{all_pairs_push}
use Rattle.std.proofs.lemmas.List.Sums.{sum_by-append, sum_by-take-le}
use Rattle.std.proofs.lemmas.Option.{slice_get_within, get_or_from_slice_get, slice_get-map, none-some}
use Rattle.record_pages.specs.Recs.{Rec, size}
use Rattle.record_pages.specs.Sizes.{max_set_records}
use Rattle.policy_laws.specs.declared.item.Item.{Item}
use Rattle.policy_laws.specs.declared.job.Job.{Job}
use Rattle.policy_laws.specs.declared.choice.Choice.{Choice}
use Rattle.policy_laws.specs.Laws.{size_at}
use Rattle.mover.specs.declared.moving.Moving.{Moving}
use Rattle.mover.specs.Flight.{records_of}
use Rattle.mover.specs.Job.{items_of}
use Rattle.mover.specs.Commit.{IsFitting}
use Rattle.mover.proofs.Filling.{sized}

-- a plan names the item with this number
abbrev pub is_named : List Choice → ℕ → Bool
is_named plan item = list_any (λ (c : Choice). eqb c.item item) plan

-- What is known once the front of a plan was tested: it fits, just its items are marked, and their sizes are summed up.
pub record IsTested (job : Job) (front : List Choice) (named : List Bool) (used : ℕ) : Type 0 where
  pub fits : IsFitting job front
  pub marks : (item : ℕ) → get_or named item false ≡ is_named front item
  pub sums : used ≡ sum_by (λ (c : Choice). size_at job.items c.item) front

-- one number more of a sum
zero_plus : (n : ℕ) → 0 + n ≡ n
zero_plus n = omega arith

sum_push : (f : Choice → ℕ) (xs : List Choice) (c : Choice) → sum_by f (xs ++ c ∷ []) ≡ sum_by f xs + f c
sum_push f xs c = sum_by-append f xs (c ∷ []) ∙ ap (λ n. sum_by f xs + n) (zero_plus (f c))

or_none : (b : Bool) → (b || (false || false)) ≡ b
or_none true = refl
or_none false = refl

-- no choice is nothing
pub tested_none : (job : Job) (named : List Bool) → ((item : ℕ) → get_or named item false ≡ false) → IsTested job [] named 0
tested_none job named clear = record {
  fits = record { in_range = λ i d lt. absurd (omega (arith, lt)); distinct = λ i j d lt within. absurd (omega (arith, within)); within = omega arith; few = omega arith };
  marks = clear;
  sums = refl;
}

-- one choice more
pub tested_more : (job : Job) (front : List Choice) (named : List Bool) (used : ℕ) (c : Choice) → IsTested job front named used → c.item < length job.items → c.item < length named → get_or named c.item false ≡ false → length front < max_set_records →
    used + size_at job.items c.item ≤ job.room → IsTested job (front ++ c ∷ []) (set named c.item true) (used + size_at job.items c.item)
tested_more job front named used c is range below fresh few fits = record {
  fits = record {
    in_range = All-push (λ (x : Choice). x.item < length job.items) front c is.fits.in_range range;
    distinct = all_pairs_push (λ (a b : Choice). a.item ≢ b.item) front c is.fits.distinct other;
    within = let total = is.sums in omega (arith, sum, total, fits);
    few = let long = length_push front in omega (arith, long, few);
  };
  marks = marked;
  sums = ap (λ n. n + size_at job.items c.item) is.sums ∙ sym sum;
}
  where
    sum : sum_by (λ (x : Choice). size_at job.items x.item) (front ++ c ∷ []) ≡ sum_by (λ (x : Choice). size_at job.items x.item) front + size_at job.items c.item
    sum = sum_push (λ (x : Choice). size_at job.items x.item) front c

    length_push : (xs : List Choice) → length (xs ++ c ∷ []) ≡ length xs + 1
    length_push [] = refl
    length_push (x ∷ xs) = let rest = length_push xs in omega (arith, rest)

    other : (k : ℕ) (d : Choice) → k < length front → (get_or front k d).item ≢ c.item
    other k d lt same = false≢true (sym (sym (is.marks c.item) ∙ fresh) ∙ list_any_at (λ (x : Choice). eqb x.item c.item) front k d lt (eq-eqb _ _ same))

    marked : (item : ℕ) → get_or (set named c.item true) item false ≡ is_named (front ++ c ∷ []) item
    marked item = step (eqb c.item item) refl ∙ sym (list_any-append (λ (x : Choice). eqb x.item item) front (c ∷ []))
      where
        step : (b : Bool) → eqb c.item item ≡ b → get_or (set named c.item true) item false ≡ (list_any (λ (x : Choice). eqb x.item item) front || (eqb c.item item || false))
        step true at =
            let same = eqb-true c.item item at in
            subst (λ n. get_or (set named c.item true) n false ≡ true) same (get_or-set_same named c.item true false below)
            ∙ sym (or_right (list_any (λ (x : Choice). eqb x.item item) front) (eqb c.item item || false) (ap (λ b. b || false) at))
        step false at =
            get_or-set_other named c.item item true false (λ same. eqb-false c.item item at (sym same)) ∙ is.marks item ∙ sym (or_none (list_any (λ (x : Choice). eqb x.item item) front))
            ∙ ap (λ b. list_any (λ (x : Choice). eqb x.item item) front || (b || false)) (sym at)

module _ (job : Job) (plan : List Choice) where
  -- one choice more of a plan
  front_more : (n : ℕ) (c : Choice) → slice_get plan n ≡ Some c → take (n + 1) plan ≡ take n plan ++ c ∷ []
  front_more n c at = take_more plan n c (slice_get_within plan n c at) ∙ ap (λ x. take n plan ++ x ∷ []) (get_or_from_slice_get plan n c c at)

  pub next_tested : (n : ℕ) (c : Choice) (named : List Bool) (used : ℕ) → slice_get plan n ≡ Some c → length plan ≤ max_set_records → IsTested job (take n plan) named used → c.item < length job.items → c.item < length named → get_or named c.item false ≡ false →
      used + size_at job.items c.item ≤ job.room → IsTested job (take (n + 1) plan) (set named c.item true) (used + size_at job.items c.item)
  next_tested n c named used at few is range below fresh fits =
      let within = slice_get_within plan n c at in
      let long : length (take n plan) < max_set_records = simp length-take (omega (arith, within, few)) in
      subst (λ front. IsTested job front (set named c.item true) (used + size_at job.items c.item)) (sym (front_more n c at)) (tested_more job (take n plan) named used c is range below fresh long fits)

  -- a plan of which all choices were tested fits
  pub all_tested : (n : ℕ) (named : List Bool) (used : ℕ) → length plan ≤ n → IsTested job (take n plan) named used → IsFitting job plan
  all_tested n named used all is = subst (IsFitting job) (take_all n plan all) is.fits

  -- one that is too long does not
  pub too_long : max_set_records < length plan → IsFitting job plan → ⊥
  too_long long fits = let few = fits.few in omega (arith, long, few)

  -- nor one that names what is not there
  pub out_of_range : (n : ℕ) (c : Choice) → slice_get plan n ≡ Some c → length job.items ≤ c.item → IsFitting job plan → ⊥
  out_of_range n c at out fits =
      let range : c.item < length job.items = subst (λ (x : Choice). x.item < length job.items) (get_or_from_slice_get plan n c c at) (fits.in_range n c (slice_get_within plan n c at)) in
      omega (arith, out, range)

  -- nor one that names an item again
  pub repeated : (n : ℕ) (c : Choice) (named : List Bool) (used : ℕ) → slice_get plan n ≡ Some c → IsTested job (take n plan) named used → get_or named c.item false ≡ true → IsFitting job plan → ⊥
  repeated n c named used at is again fits =
      let found = Any-from_list_any (λ (x : Choice). eqb x.item c.item) (take n plan) (sym (is.marks c.item) ∙ again) in
      let within = slice_get_within plan n c at in
      let long : length (take n plan) ≤ n = simp length-take (omega arith) in
      let lt = found.2 in
      let below : found.0 < n = omega (arith, long, lt) in
      let at_k : get_or plan found.0 found.1 ≡ found.1 = sym (get_or-take n plan found.0 found.1 below) ∙ found.3 in
      let at_n : get_or plan n found.1 ≡ c = get_or_from_slice_get plan n c found.1 at in
      fits.distinct found.0 n found.1 below within (ap (λ (x : Choice). x.item) at_k ∙ eqb-true found.1.item c.item found.4 ∙ ap (λ (x : Choice). x.item) (sym at_n))

  -- nor one whose items are too large together
  pub too_large : (n : ℕ) (c : Choice) (named : List Bool) (used : ℕ) → slice_get plan n ≡ Some c → IsTested job (take n plan) named used → job.room < used + size_at job.items c.item → IsFitting job plan → ⊥
  too_large n c named used at is large fits =
      let sum : sum_by (λ (x : Choice). size_at job.items x.item) (take (n + 1) plan) ≡ sum_by (λ (x : Choice). size_at job.items x.item) (take n plan) + size_at job.items c.item
      = ap (sum_by (λ (x : Choice). size_at job.items x.item)) (front_more n c at) ∙ sum_push (λ (x : Choice). size_at job.items x.item) (take n plan) c in
      let total = is.sums in
      let part = sum_by-take-le (λ (x : Choice). size_at job.items x.item) plan (n + 1) in
      let within = fits.within in
      omega (arith, large, sum, total, part, within)

-- the size of a record is that of its item
pub item_size : (moving : Moving) (item : ℕ) (r : Rec) → slice_get (records_of moving) item ≡ Some r → size_at (items_of moving) item ≡ size r
item_size moving item r at =
    one (slice_get (items_of moving) item) (size r) (sym (slice_get-map (λ (i : Item). i.size) (items_of moving) item) ∙ ap (λ ns. slice_get ns item) (sized moving) ∙ slice_get-map size (records_of moving) item ∙ ap (option_map size) at)
  where
    one : (o : Option Item) (n : ℕ) → option_map (λ (i : Item). i.size) o ≡ Some n → option_map_or (λ (i : Item). i.size) o 0 ≡ n
    one (Some i) n e = cc
    one None n e = absurd (none-some n e)

-- nothing is marked at first
pub unmarked : (n item : ℕ) → get_or (replicate n false) item false ≡ false
unmarked zero item = refl
unmarked (suc n) zero = refl
unmarked (suc n) (suc item) = unmarked n item
