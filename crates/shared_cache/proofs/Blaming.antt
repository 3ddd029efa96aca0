-- Which positions of a lane are free, and what passes tell of them.
use Rattle.std.proofs.Common.{◌≡◌, ◌≢◌, ◌∙◌, ℕ, zero, suc, ◌+◌, ◌<◌, ◌≤◌, List, [], ◌∷◌, ◌++◌, length, map, set, replicate, Option, Some, None, slice_get, All, sym, refl, ap, subst, inl, inr, arith, append-nil, length-append, length-set}
use Rattle.std.specs.List.{Contains}
use Rattle.std.specs.List.Sorted.{IsPermutation}
use Rattle.std.proofs.lemmas.Bool.{cases_eq}
use Rattle.std.proofs.lemmas.List.{get_or_append_left, get_or-append-add, length-map}
use Rattle.std.proofs.lemmas.List.Elements.{All-append, All-cons, All-head, All-nil, All-tail}
use Rattle.std.proofs.lemmas.List.Sorted.{All-permutation, Contains-permutation, IsPermutation-sym}
use Rattle.std.proofs.lemmas.Option.{slice_get_within, same_Some}
use Rattle.recorded_lane.specs.declared.noted.Noted.{Noted}
use Rattle.history_recorder.proofs.public_laws.Indexing.{at_so}
use Rattle.history_recorder.proofs.public_laws.Stamps.{found_right, set_here, set_there}
use Rattle.certificate_checker.specs.declared.done.Done.{Done}
use Rattle.shared_cache.specs.declared.finish_fault.FinishFault.{FinishFault}
use Rattle.shared_cache.specs.declared.finish_fault.FinishFault.TheVariants.{MissingPass, Strange, OutOfMemory, LaneLost, Unlisted}
use Rattle.shared_cache.specs.Listed.{Listed}
use Rattle.shared_cache.specs.Passes.{Ticket}
use Rattle.shared_cache.specs.Blames.{Blames, IsFree, IsOfPlace, calls_in, recorded_at}
use Rattle.shared_cache.specs.Claimed.{Claims, IsBy, IsFirstFree, IsTaken}
use Rattle.shared_cache.specs.Settled.{IsNotOwn}

-- ---- look-ups

abbrev no_done : Option Done
no_done = None

pub none_there : (n k : ℕ) → k < n → slice_get (replicate n no_done) k ≡ Some None
none_there zero k low = absurd (omega (arith, low))
none_there (suc n) zero low = refl
none_there (suc n) (suc k) low = none_there n k (omega (arith, low))

pub many_none : (n : ℕ) → length (replicate n no_done) ≡ n
many_none zero = refl
many_none (suc n) = ap suc (many_none n)

pub recorded_past : (recorded : List (List Noted)) (lane position : ℕ) → length recorded ≤ lane → recorded_at recorded lane position ≡ None
recorded_past [] lane position past = refl
recorded_past (c ∷ cs) zero position past = absurd (omega (arith, past))
recorded_past (c ∷ cs) (suc lane) position past = recorded_past cs lane position (omega (arith, past))

-- a lane where a call was recorded is one of the lanes
pub recorded_within : (recorded : List (List Noted)) (lane position : ℕ) (n : Noted) → recorded_at recorded lane position ≡ Some n → lane < length recorded
recorded_within [] lane position n at = absurd cc
recorded_within (c ∷ cs) zero position n at = omega arith
recorded_within (c ∷ cs) (suc lane) position n at = let low = recorded_within cs lane position n at in omega (arith, low)

pub all_left : {X : Type 0} (P : X → Type 0) (xs ys : List X) → All P (xs ++ ys) → All P xs
all_left P xs ys all = λ k d low. let more = length-append xs ys in subst P (get_or_append_left xs ys d k low) (all k d (omega (arith, more, low)))

pub all_right : {X : Type 0} (P : X → Type 0) (xs ys : List X) → All P (xs ++ ys) → All P ys
all_right P xs ys all = λ k d low. let more = length-append xs ys in subst P (get_or-append-add xs ys k d) (all (length xs + k) d (omega (arith, more, low)))

-- ---- positions that are free

pub free_front : (calls : List Listed) (l : Listed) (lane position : ℕ) → IsFree (calls ++ l ∷ []) lane position → IsFree calls lane position
free_front calls l lane position free = all_left (λ m. ¬ IsOfPlace lane position m) calls (l ∷ []) free

pub free_more : (calls : List Listed) (l : Listed) (lane position : ℕ) → ¬ IsOfPlace lane position l → IsFree calls lane position → IsFree (calls ++ l ∷ []) lane position
free_more calls l lane position other free =
    All-append (λ m. ¬ IsOfPlace lane position m) calls (l ∷ []) free (All-cons (λ m. ¬ IsOfPlace lane position m) l [] other (All-nil (λ m. ¬ IsOfPlace lane position m)))

pub not_free : (calls : List Listed) (l : Listed) (lane position : ℕ) → IsOfPlace lane position l → ¬ IsFree (calls ++ l ∷ []) lane position
not_free calls l lane position of free = at_so (λ m. ¬ IsOfPlace lane position m) (calls ++ l ∷ []) (length calls) l free (found_right calls (l ∷ []) (length calls) 0 (omega arith)) of

pub by_more : (claims : Claims) (lane : ℕ) (calls : List Listed) (l : Listed) → ¬ (l.lane ≡ lane) → IsBy claims lane calls → IsBy claims lane (calls ++ l ∷ [])
by_more claims lane calls l other by = record {
  many = by.many;
  free = λ position low. (
    λ none. free_more calls l lane position (λ of. other of.0) ((by.free position low).0 none),
    λ free. (by.free position low).1 (free_front calls l lane position free),
  );
}

pub by_claimed : (claims new : Claims) (lane : ℕ) (calls : List Listed) (l : Listed) (d : Done) → l.lane ≡ lane → slice_get claims.slots l.position ≡ Some None → new ≡ record claims { slots = set claims.slots l.position (Some d) }
    → IsBy claims lane calls → IsBy new lane (calls ++ l ∷ [])
by_claimed claims new lane calls l d here free is by = rw is (record {
  many = length-set claims.slots l.position (Some d) ∙ by.many;
  free = λ position low. elim (cases_eq position l.position) [
    | inl same ↦ (
      λ none.
          let here' : slice_get (set claims.slots l.position (Some d)) l.position ≡ Some None = subst (λ n. slice_get (set claims.slots l.position (Some d)) n ≡ Some None) same none in
          let never : Some d ≡ no_done = same_Some (Some d) no_done (sym (set_here claims.slots l.position (Some d) None free) ∙ here') in
          absurd cc,
      λ free'. absurd (not_free calls l lane position (here, sym same) free'),
    )
    | inr other ↦
        let there = set_there claims.slots l.position position (Some d) other in (
          λ none. free_more calls l lane position (λ of. other (sym of.1)) ((by.free position low).0 (sym there ∙ none)),
          λ free'. there ∙ (by.free position low).1 (free_front calls l lane position free'),
        )
  ];
})

-- ---- the first that is unlisted

-- what was handed out was claimed
pub some_there : (dones : List Done) (left : List (Option Done)) (k : ℕ) → k < length dones → slice_get (map Some dones ++ left) k ≢ Some None
some_there [] left k low is = absurd (omega (arith, low))
some_there (d ∷ dones) left zero low is = let never : Some d ≡ no_done = same_Some (Some d) no_done is in absurd cc
some_there (d ∷ dones) left (suc k) low is = some_there dones left k (omega (arith, low)) is

pub first_free : (slots : List (Option Done)) (dones : List Done) (left : List (Option Done)) (position : ℕ) → slots ≡ map Some dones ++ None ∷ left → position ≡ length dones → IsFirstFree slots position
first_free slots dones left position is at =
    let many = length-map dones Some in
    record {
      free = rw is (found_right (map Some dones) (None ∷ left) position 0 (omega (arith, at, many)));
      before = λ k low none. some_there dones (None ∷ left) k (omega (arith, low, at)) (sym (ap (λ s. slice_get s k) is) ∙ none);
    }

pub all_taken : (claims : Claims) (dones : List Done) → claims.slots ≡ map Some dones → IsTaken claims
all_taken claims dones is = λ position none.
    let many = length-map dones Some in
    let here : slice_get (map Some dones) position ≡ Some None = sym (ap (λ s. slice_get s position) is) ∙ none in
    let low = slice_get_within (map Some dones) position None here in
    some_there dones [] position (omega (arith, low, many)) (rw (append-nil (map Some dones)) here)

pub lane_call : (calls : List Noted) (position : ℕ) → position < length calls → (n : Noted) × (slice_get calls position ≡ Some n)
lane_call [] position low = absurd (omega (arith, low))
lane_call (n ∷ calls) zero low = (n, refl)
lane_call (n ∷ calls) (suc position) low = lane_call calls position (omega (arith, low))

-- ---- what passes tell, in another order

contains_mid : (before after : List Ticket) (p : Ticket) → Contains (before ++ p ∷ after) p
contains_mid before after p =
    let many = length-append before (p ∷ after) in
    (length before + 0, omega (arith, many), get_or-append-add before (p ∷ after) 0 p)

free_each : (passes : List Ticket) (lane position : ℕ) → IsFree (calls_in passes) lane position → All (λ p. IsFree p.calls lane position) passes
free_each [] lane position free = All-nil (λ p. IsFree p.calls lane position)
free_each (p ∷ passes) lane position free =
    All-cons (λ q. IsFree q.calls lane position) p passes
    (all_left (λ l. ¬ IsOfPlace lane position l) p.calls (calls_in passes) free)
    (free_each passes lane position (all_right (λ l. ¬ IsOfPlace lane position l) p.calls (calls_in passes) free))

free_all : (passes : List Ticket) (lane position : ℕ) → All (λ p. IsFree p.calls lane position) passes → IsFree (calls_in passes) lane position
free_all [] lane position each = All-nil (λ l. ¬ IsOfPlace lane position l)
free_all (p ∷ passes) lane position each =
    All-append (λ l. ¬ IsOfPlace lane position l) p.calls (calls_in passes)
    (All-head (λ q. IsFree q.calls lane position) p passes each)
    (free_all passes lane position (All-tail (λ q. IsFree q.calls lane position) p passes each))

pub blamed : (callers lanes : ℕ) (recorded : List (List Noted)) (passes order : List Ticket) (fault : FinishFault) → length recorded ≡ lanes → IsPermutation passes order
    → IsNotOwn recorded order fault → Blames callers lanes passes fault
blamed callers lanes recorded passes order OutOfMemory many there why = tt
blamed callers lanes recorded passes order (Strange caller call) many there why = record {
  pass = why.pass;
  given = Contains-permutation order passes why.pass (IsPermutation-sym passes order there) (subst (λ ps. Contains ps why.pass) (sym why.order) (contains_mid why.before why.after why.pass));
  of = why.of;
  within = why.within;
}
blamed callers lanes recorded passes order (Unlisted lane position) many there why =
    let low = recorded_within recorded lane position why.call why.stands in
    record {
      of = omega (arith, low, many);
      free = free_all passes lane position (All-permutation (λ p. IsFree p.calls lane position) order passes (IsPermutation-sym passes order there) (free_each order lane position why.free));
    }
blamed callers lanes recorded passes order (MissingPass caller) many there why = absurd why
blamed callers lanes recorded passes order (LaneLost lane) many there why = absurd why
