-- Calls whose stamps are right are judged as they are.
use Rattle.std.proofs.Common.{◌≡◌, ◌∙◌, ◌<◌, ◌≤◌, ◌+◌, ◌-◌, ◌^◌, ℕ, List, [], ◌∷◌, map, suc, ap, ap₂, arith, refl, sym}
use Rattle.std.specs.Prelude.{All, nat_le}
use Rattle.std.proofs.lemmas.Bool.{cond-true, le-leb}
use Rattle.trace_file.specs.Calls.{IsCall, time_of}
use Rattle.trace_file.specs.declared.act.Act.{Act}
use Rattle.trace_file.specs.declared.act.Act.TheVariants as acts
use Rattle.trace_file.specs.declared.call.Call.{Call}
use Rattle.clock_skew.specs.Widening.{act_widened, last_stamp, later, widened}

earlier_none : (stamp : ℕ) → stamp - 0 ≡ stamp
earlier_none stamp = omega arith

later_none : (stamp : ℕ) → stamp < 2 ^ 64 → later 0 stamp ≡ stamp
later_none stamp less =
    let most : stamp + 0 ≤ last_stamp = omega (arith, less) in
    let same : stamp + 0 ≡ stamp = omega arith in
    cond-true (nat_le (stamp + 0) last_stamp) (stamp + 0) last_stamp (le-leb (stamp + 0) last_stamp most) ∙ same

act_none : (act : Act) → time_of act < 2 ^ 64 → act_widened 0 act ≡ act
act_none (acts.Put value expires) less = ap (acts.Put value) (later_none expires less)
act_none acts.Remove less = refl
act_none (acts.Hit value moment) less = ap (acts.Hit value) (earlier_none moment)
act_none acts.Miss less = refl

call_none : (call : Call) → IsCall call → widened 0 call ≡ call
call_none call is = λ i. record call { start = earlier_none call.start i; end = later_none call.end is.end i; act = act_none call.act is.time i }

widened_none : (calls : List Call) → All IsCall calls → map (widened 0) calls ≡ calls
widened_none [] all = refl
widened_none (call ∷ calls) all = ap₂ (λ c cs. c ∷ cs) (call_none call (all 0 call (omega arith))) (widened_none calls (λ k d lt. all (suc k) d (omega (arith, lt))))

-- calls are judged as they are if no stamp may differ
pub same_widened : (skew : ℕ) → skew ≡ 0 → (calls : List Call) → All IsCall calls → calls ≡ map (widened skew) calls
same_widened skew none calls all = sym (ap (λ s. map (widened s) calls) none ∙ widened_none calls all)
