-- What callers counted, one more at a time.
use Rattle.std.proofs.Common.{◌≡◌, ◌∙◌, ◌*◌, ◌+◌, ◌≤◌, ◌∷◌, ◌++◌, [], ℕ, List, All, ap, ap₂, arith, length, map, refl, subst, suc, sum_by, sym, zero}
use Rattle.std.proofs.Math.Logic.{∥∥₁_map}
use Rattle.std.proofs.lemmas.List.{map-append}
use Rattle.std.proofs.lemmas.List.Elements.{All-cons}
use Rattle.std.proofs.lemmas.List.Sums.{sum_by-cons}
use Rattle.load.specs.declared.serve_load.ServeLoad.{ServeLoad}
use Rattle.serve_load.specs.declared.caller_stop.CallerStop.{CallerStop}
use Rattle.serve_load.specs.declared.caller_stop.CallerStop.TheVariants.{AllMade, Halted, TimeOver, Wrong}
use Rattle.serve_load.specs.declared.caller_tally.CallerTally.{CallerTally}
use Rattle.serve_load.specs.declared.told_hit.ToldHit.{ToldHit}
use Rattle.serve_load.specs.declared.report.Report.{Report}
use Rattle.serve_load.specs.Calls.{IsComplete, IsTally, completed}
use Rattle.serve_load.specs.Reports.{IsMade}
use Rattle.serve_load.specs.Tallies.{AddUp, upto, with_hit}

-- one caller more adds what it counted
pub one_adds : (is_tally : CallerTally → Type 0) (most o r w : ℕ) (hits : List ToldHit) (c : CallerTally) (o' r' w' : ℕ) (hits' : List ToldHit) → AddUp is_tally most o r w hits → ∥ is_tally c ∥₁ → o' ≡ o + c.operations → r' ≡ r + c.refused → w' ≡ w + completed c.stop → hits' ≡ with_hit hits c.stop → AddUp is_tally (most + 1) o' r' w' hits'
one_adds is_tally most o r w hits c o' r' w' hits' h t eo er ew eh = record {
  counts = c ∷ h.counts;
  few = let few = h.few in omega (arith, few);
  tallies = All-cons (λ x. ∥ is_tally x ∥₁) c h.counts t h.tallies;
  operations_are = let is = h.operations_are in let more = sum_by-cons (λ x. x.operations) c h.counts in omega (arith, eo, is, more);
  refused_are = let is = h.refused_are in let more = sum_by-cons (λ x. x.refused) c h.counts in omega (arith, er, is, more);
  whole_are = let is = h.whole_are in let more = sum_by-cons (λ x. completed x.stop) c h.counts in omega (arith, ew, is, more);
  hits_are = eh ∙ ap (λ hs. with_hit hs c.stop) h.hits_are;
}

-- tallies that are others too add up as those
pub as_others : (is_tally is_other : CallerTally → Type 0) (most o r w : ℕ) (hits : List ToldHit) → ((c : CallerTally) → is_tally c → is_other c) → AddUp is_tally most o r w hits → AddUp is_other most o r w hits
as_others is_tally is_other most o r w hits f h = record {
  counts = h.counts;
  few = h.few;
  tallies = λ k d less. ∥∥₁_map (h.tallies k d less) (f _);
  operations_are = h.operations_are;
  refused_are = h.refused_are;
  whole_are = h.whole_are;
  hits_are = h.hits_are;
}

-- one ended by itself at the most
pub few_completed : (stop : CallerStop) → completed stop ≤ 1
few_completed AllMade = omega arith
few_completed TimeOver = omega arith
few_completed Halted = omega arith
few_completed (Wrong hit) = omega arith

all_times : (w w' k n most : ℕ) → w' ≡ w + k → k ≤ 1 → (k ≡ 1 → n ≡ most) → (o o' : ℕ) → w * most ≤ o → o' ≡ o + n → w' * most ≤ o'
all_times w w' zero n most ew few is o o' before eo =
    let same : w' ≡ w = omega (arith, ew) in
    let equal : w' * most ≡ w * most = ap (λ m. m * most) same in
    omega (arith, equal, before, eo)
all_times w w' (suc k) n most ew few is o o' before eo =
    let one : k ≡ 0 = omega (arith, few) in
    let made : n ≡ most = is (omega (arith, one)) in
    let same : w' ≡ w + 1 = omega (arith, ew, one) in
    let more : (w + 1) * most ≡ w * most + most = grind arith in
    let equal : w' * most ≡ (w + 1) * most = ap (λ m. m * most) same in
    omega (arith, equal, more, before, eo, made)

-- as long as there is no limit of time, whoever ended by itself made all its operations
pub all_made : (seconds most : ℕ) (c : CallerTally) → IsComplete seconds most c → (w w' o o' : ℕ) → (seconds ≡ 0 → w * most ≤ o) → w' ≡ w + completed c.stop → o' ≡ o + c.operations → seconds ≡ 0 → w' * most ≤ o'
all_made seconds most c whole w w' o o' before ew eo none = all_times w w' (completed c.stop) c.operations most ew (few_completed c.stop) (whole none) o o' (before none) eo

-- the next number after those below it
pub one_more_number : {X : Type 0} (f : X → ℕ) (xs ys : List X) (x : X) (n : ℕ) → map f xs ≡ upto n → f x ≡ n → ys ≡ xs ++ x ∷ [] → map f ys ≡ upto (n + 1)
one_more_number {X} f xs ys x n e is items =
    let same : suc n ≡ n + 1 = omega arith in
    ap (map f) items ∙ map-append f xs (x ∷ []) ∙ ap₂ (λ a b. a ++ b ∷ []) e is ∙ ap upto same

full : (callers most o w : ℕ) → callers ≤ w → w * most ≤ o → o ≤ callers * most → w ≤ callers → o ≡ callers * most
full callers most o w each made few fits =
    let same : w ≡ callers = omega (arith, each, fits) in
    let equal : w * most ≡ callers * most = ap (λ m. m * most) same in
    omega (arith, equal, made, few)

completed_within : (counts : List CallerTally) → sum_by (λ c. completed c.stop) counts ≤ length counts
completed_within [] = omega arith
completed_within (c ∷ counts) =
    let more = sum_by-cons (λ x. completed x.stop) c counts in
    let rest = completed_within counts in
    let one = few_completed c.stop in
    omega (arith, more, rest, one)

-- no more callers ended by themselves than there are
whole_within : (is_tally : CallerTally → Type 0) (callers o r w : ℕ) (hits : List ToldHit) → AddUp is_tally callers o r w hits → w ≤ callers
whole_within is_tally callers o r w hits h =
    let some = completed_within h.counts in
    let is = h.whole_are in
    let few = h.few in
    omega (arith, some, is, few)

-- a report with these sums is one of what the callers of a load counted
pub is_made : (load : ServeLoad) (report : Report) (o r w : ℕ) (hits : List ToldHit) → report.operations ≡ o → report.refused ≡ r → report.wrong_hits ≡ length hits → o ≤ load.callers * load.operations → (load.seconds ≡ 0 → w * load.operations ≤ o) → (length hits ≡ 0 → load.callers ≤ w) → AddUp (IsTally load) load.callers o r w hits → IsMade load report hits
is_made load report o r w hits eo er ew most made each sums =
    let within = whole_within (IsTally load) load.callers o r w hits sums in
    record {
      whole = w;
      most = subst (λ n. n ≤ load.callers * load.operations) (sym eo) most;
      told = ew;
      each = λ none. let some = each (sym ew ∙ none) in omega (arith, some, within);
      all = λ unlimited none. eo ∙ full load.callers load.operations o w (each (sym ew ∙ none)) (made unlimited) most within;
      sums = subst (λ n. AddUp (IsTally load) load.callers n report.refused w hits) (sym eo) (subst (λ n. AddUp (IsTally load) load.callers o n w hits) (sym er) sums);
    }
