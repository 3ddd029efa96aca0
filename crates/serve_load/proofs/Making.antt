-- One operation more of a caller, and its end.
use Rattle.std.proofs.Common.{◌≡◌, ◌≢◌, ◌∙◌, ◌+◌, ◌≤◌, ◌<◌, ℕ, Bool, List, Some, None, suc, [], ap, arith, false, inl, inr, refl, replicate, slice_index, subst, sym, true}
use Rattle.rand_pcg.specs.Lcg.{Lcg}
use Rattle.load.specs.Operations.{past}
use Rattle.load.specs.Served.{served_next_of}
use Rattle.load.specs.declared.serve_load.ServeLoad.{ServeLoad}
use Rattle.load.specs.declared.serve_operation.ServeOperation.{ServeOperation}
use Rattle.load.specs.declared.serve_operation.ServeOperation.TheVariants.{Get, Put, Remove}
use Rattle.serve_load.specs.declared.caller_stop.CallerStop.{CallerStop}
use Rattle.serve_load.specs.declared.caller_stop.CallerStop.TheVariants.{AllMade, Halted, TimeOver, Wrong}
use Rattle.serve_load.specs.declared.caller_tally.CallerTally.{CallerTally}
use Rattle.serve_load.specs.declared.time_limit.TimeLimit.{TimeLimit}
use Rattle.serve_load.specs.declared.told_hit.ToldHit.{ToldHit}
use Rattle.serve_load.specs.declared.words.CallEnd.{CallEnd}
use Rattle.serve_load.specs.declared.words.CallEnd.TheVariants.{Done, Refused, WrongHit}
use Rattle.serve_load.specs.declared.words.Known.{Known}
use Rattle.certificate_checker.specs.Deeds.{Deed}
use Rattle.serve_load.specs.Calls.{Does, EndsRight, EndsWrong, HasEnded, IsAt, IsComplete, IsEnded, IsOfCache, IsOneOf, IsTally, IsWrongHit, Standing, StopsRight, begun, completed, is_wrong, operation_at, refusals_of, standing, wrong_of}
use Rattle.serve_load.specs.Limits.{IsTimed, Stops}
use Rattle.serve_load.specs.Looking.{FindsAll, IsFound}
use Rattle.serve_load.specs.Objects.{key_of, moment_of}
use Rattle.serve_load.specs.Words.{IsRight}

-- one operation is refused once at the most
pub few_refusals : (step : CallEnd) → refusals_of step ≤ 1
few_refusals Done = omega arith
few_refusals Refused = omega arith
few_refusals (WrongHit seen) = omega arith

-- a step with no wrong hit is not wrong, and one with a wrong hit is that hit
pub right_is : (step : CallEnd) → wrong_of step ≡ None → is_wrong step ≡ false
right_is Done h = refl
right_is Refused h = refl
right_is (WrongHit seen) h = absurd cc

pub wrong_is : (step : CallEnd) (known : Known) → wrong_of step ≡ Some known → step ≡ WrongHit known
wrong_is Done known h = absurd cc
wrong_is Refused known h = absurd cc
wrong_is (WrongHit seen) known h = let same : seen ≡ known = cc in ap (λ k. WrongHit k) same

-- how a caller is stopped before an operation
pub stops_right : (load : ServeLoad) (number : ℕ) (stop : CallerStop) (old new : TimeLimit) → old.seconds ≡ load.seconds → Stops old stop new → StopsRight load number stop
stops_right load number AllMade old new same h = absurd h
stops_right load number Halted old new same h = tt
stops_right load number TimeOver old new same h = subst (λ n. n ≢ 0) same h.2
stops_right load number (Wrong hit) old new same h = absurd h

pub stops_timed : (number : ℕ) (stop : CallerStop) (old new : TimeLimit) → old.left ≡ number → old.is_over ≡ false → Stops old stop new → IsTimed number stop new
stops_timed number AllMade old new left unended h = absurd h
stops_timed number Halted old new left unended h = record { each = ap (λ (t : TimeLimit). t.left) h ∙ left; first = ap (λ (t : TimeLimit). t.is_over) h ∙ unended }
stops_timed number TimeOver old new left unended h = record { each = h.0 ∙ left; first = h.1 }
stops_timed number (Wrong hit) old new left unended h = absurd h

pub stops_of_cache : (said : ℕ → Bool) (lane_of : List ℕ → ℕ) (load : ServeLoad) (caller : ℕ) (stop : CallerStop) (old new : TimeLimit) → Stops old stop new → IsOfCache said lane_of load caller stop
stops_of_cache said lane_of load caller AllMade old new h = tt
stops_of_cache said lane_of load caller Halted old new h = tt
stops_of_cache said lane_of load caller TimeOver old new h = tt
stops_of_cache said lane_of load caller (Wrong hit) old new h = absurd h

-- the hit of an operation that ended at a wrong one
pub wrong_hit : (said : ℕ → Bool) (lane_of : List ℕ → ℕ) (load : ServeLoad) (caller number : ℕ) (operation : ServeOperation) (words : List ℕ) (seen : List Deed) (found : List ℕ) (known : Known) (old new : Standing) → Does load caller operation number (WrongHit known) old new → FindsAll said lane_of load caller operation words number seen found (WrongHit known) → IsWrongHit load caller operation number words (record { caller = caller; operation = number; known = known; found = found })
wrong_hit said lane_of load caller number (Get key) words seen found known old new does finds = record {
  caller_is = refl;
  operation_is = refl;
  looked_up = ap (λ (k : Known). Get k.key) (sym finds.0);
  known = ap (λ (k : Known). k.word) finds.0 ∙ ap (λ (k : Known). slice_index words k.key) (sym finds.0);
  wrong = subst (λ (k : Known). ¬ IsRight load k.key k.word (moment_of load number) found) (sym finds.0) finds.2;
}
wrong_hit said lane_of load caller number (Remove key) words seen found known old new does finds = absurd does
wrong_hit said lane_of load caller number (Put key) words seen found known old new does finds = absurd does

pub found_by : (said : ℕ → Bool) (lane_of : List ℕ → ℕ) (load : ServeLoad) (caller number : ℕ) (operation : ServeOperation) (words : List ℕ) (seen : List Deed) (found : List ℕ) (known : Known) (old new : Standing) → Does load caller operation number (WrongHit known) old new → FindsAll said lane_of load caller operation words number seen found (WrongHit known) → IsFound said lane_of seen (key_of caller known.key) (moment_of load number) found
found_by said lane_of load caller number (Get key) words seen found known old new does finds =
    subst (λ (k : Known). IsFound said lane_of seen (key_of caller k.key) (moment_of load number) found) (sym finds.0) finds.1
found_by said lane_of load caller number (Remove key) words seen found known old new does finds = absurd does
found_by said lane_of load caller number (Put key) words seen found known old new does finds = absurd does

module _ (load : ServeLoad) (caller : ℕ) (first : Lcg) (number refused : ℕ) (old now : Standing) (g : Lcg) (here : IsAt load caller first number refused old now g) where
  suc_is : suc number ≡ number + 1
  suc_is = omega arith

  pub one_more : (who : ℕ) (step : CallEnd) (new : Standing) (after : Lcg) → who ≡ caller → is_wrong step ≡ false → Does load who (served_next_of load g) number step now new → after ≡ past (past g) → IsAt load caller first (number + 1) (refused + refusals_of step) old new after
  one_more who step new after same right does is =
      let mine : Does load caller (operation_at load first number) number step now new =
      subst (λ k. Does load caller (served_next_of load k) number step now new) here.at (subst (λ w. Does load w (served_next_of load g) number step now new) same does) in
      let few = few_refusals step in
      let fits : refused + refusals_of step ≤ suc number = omega (arith, here.few, few) in
      let next : IsAt load caller first (suc number) (refused + refusals_of step) old new after = record {
        at = is ∙ ap (λ k. past (past k)) here.at;
        made = (refused, now, here.made, record { step = step; right = right; does = mine; refusals = refl });
        few = fits;
      } in
      subst (λ n. IsAt load caller first n (refused + refusals_of step) old new after) suc_is next

  pub ended_right : (stop : CallerStop) → StopsRight load number stop → number ≤ load.operations → IsEnded load caller first old (record { operations = number; refused = refused; stop = stop })
  ended_right stop stopped some = record {
    some = some;
    few_refused = here.few;
    ends = inl (record { end = now; made = here.made; stopped = stopped });
  }

  pub ended_wrong : (said : ℕ → Bool) (lane_of : List ℕ → ℕ) (known : Known) (found : List ℕ) (seen : List Deed) (new : Standing) → Does load caller (served_next_of load g) number (WrongHit known) now new → FindsAll said lane_of load caller (served_next_of load g) now.words number seen found (WrongHit known) → number < load.operations → IsEnded load caller first old (record { operations = number + 1; refused = refused; stop = Wrong (record { caller = caller; operation = number; known = known; found = found }) })
  ended_wrong said lane_of known found seen new does finds less =
      let mine : Does load caller (operation_at load first number) number (WrongHit known) now new =
      subst (λ k. Does load caller (served_next_of load k) number (WrongHit known) now new) here.at does in
      let its : FindsAll said lane_of load caller (operation_at load first number) now.words number seen found (WrongHit known) =
      subst (λ k. FindsAll said lane_of load caller (served_next_of load k) now.words number seen found (WrongHit known)) here.at finds in
      let most : number + 1 ≤ load.operations = omega (arith, less) in
      let few : refused ≤ number + 1 = omega (arith, here.few) in
      record {
        some = most;
        few_refused = few;
        ends = inr (record {
          number = number;
          before = now;
          end = new;
          hit = record { caller = caller; operation = number; known = known; found = found };
          made = here.made;
          last = mine;
          is = wrong_hit said lane_of load caller number (operation_at load first number) now.words seen found known now new mine its;
          count = refl;
          stopped = refl;
        });
      }

module _ (load : ServeLoad) (number : ℕ) (g : Lcg) (words : List ℕ) (seen : List Deed) (one : IsOneOf load number g words seen) (counted : CallerTally) where
  -- a caller that began as one of the load's ended as one of them
  pub has_ended : IsEnded load number g (standing words seen) counted → HasEnded load number counted
  has_ended ended =
      subst (λ k. IsEnded load number k (standing (replicate load.keys 0) []) counted) one.generator_is
      (subst (λ w. IsEnded load number g (standing w []) counted) one.words_are
      (subst (λ s. IsEnded load number g (standing words s) counted) one.seen_is ended))

  pub is_tally : HasEnded load number counted → IsTally load counted
  is_tally ended = record { caller = number; one_of = one.one_of; ended = ended }

-- what a caller counts that made nothing
abbrev pub none : CallerTally
none = record { operations = 0; refused = 0; stop = Halted }

-- a caller that made nothing ended
pub no_operations : (load : ServeLoad) (number : ℕ) → HasEnded load number none
no_operations load number = record {
  some = omega arith;
  few_refused = omega arith;
  ends = inl (record { end = begun load; made = (refl, refl); stopped = tt });
}

whole_right : (load : ServeLoad) (operations : ℕ) (stop : CallerStop) → StopsRight load operations stop → load.seconds ≡ 0 → completed stop ≡ 1 → operations ≡ load.operations
whole_right load operations AllMade h none one = h
whole_right load operations TimeOver h none one = absurd (h none)
whole_right load operations Halted h none one = absurd cc
whole_right load operations (Wrong hit) h none one = absurd h

-- a caller that ended by itself made all its operations if the load has no limit of time
pub complete : (load : ServeLoad) (caller : ℕ) (first : Lcg) (old : Standing) (counted : CallerTally) (seconds most : ℕ) → seconds ≡ load.seconds → most ≡ load.operations → IsEnded load caller first old counted → IsComplete seconds most counted
complete load caller first old counted seconds most same_seconds same_most ended = λ none one. elim ended.ends [
  | inl right ↦ whole_right load counted.operations counted.stop right.stopped (sym same_seconds ∙ none) one ∙ sym same_most
  | inr wrong ↦ let zero : completed counted.stop ≡ 0 = ap completed wrong.stopped in absurd cc
]
