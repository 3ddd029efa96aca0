-- Lists of calls in a pass, with one more at the end or with another end.
use Rattle.std.proofs.Common.{Bool, true, false, ◌≡◌, ℕ, suc, ◌<◌, ◌≤◌, ◌^◌, ◌==◌, List, [], ◌∷◌, ◌++◌, length, Option, Some, None, All, sym, refl, ap, ◌∙◌, arith, get_or, set, eq-eqb, ne_eqb, ⊎_elim}
use Rattle.std.proofs.lemmas.Bool.{cases_eq}
use Rattle.std.proofs.lemmas.List.{get_or-set_other, get_or-set_same}
use Rattle.std.proofs.lemmas.List.Elements.{All-append, All-cons, All-nil}
use Rattle.recorded_lane.specs.declared.noted.Noted.{Noted}
use Rattle.shared_cache.specs.Listed.{Listed}
use Rattle.shared_cache.specs.Passes.{place_behind, former_at, with_end, IsTimely, IsPass, most_lanes}

behind : (o : Option ℕ) (b : Bool) (n place : ℕ) → ((p : ℕ) → o ≡ Some p → p < n) → place_behind o b ≡ Some place → place < suc n
behind (Some p) b n place low is = let h : p < n = low p refl in let s : suc p ≡ place = cc in omega arith
behind None true n place low is = let s : 0 ≡ place = cc in omega arith
behind None false n place low is = absurd cc

-- a place that is noted is in the list
pub former_within : (lane : ℕ) (ls : List Listed) (place : ℕ) → former_at lane ls ≡ Some place → place < length ls
former_within lane [] place e = absurd cc
former_within lane (l ∷ ls) place e = behind (former_at lane ls) (l.lane == lane) (length ls) place (former_within lane ls) e

-- a call of the lane at the end is its last one
pub former_here : (lane : ℕ) (ls : List Listed) (l : Listed) → l.lane ≡ lane → former_at lane (ls ++ l ∷ []) ≡ Some (length ls)
former_here lane [] l here = ap (place_behind None) (eq-eqb l.lane lane here)
former_here lane (m ∷ ls) l here = ap (λ (o : Option ℕ). place_behind o (m.lane == lane)) (former_here lane ls l here)

-- a call of another lane at the end changes nothing
pub former_else : (lane : ℕ) (ls : List Listed) (l : Listed) → ¬ (l.lane ≡ lane) → former_at lane (ls ++ l ∷ []) ≡ former_at lane ls
former_else lane [] l other = ap (place_behind None) (ne_eqb l.lane lane other)
former_else lane (m ∷ ls) l other = ap (λ (o : Option ℕ). place_behind o (m.lane == lane)) (former_else lane ls l other)

-- another end moves no call
pub former_ended : (lane end : ℕ) (ls : List Listed) → former_at lane (with_end end ls) ≡ former_at lane ls
former_ended lane end [] = refl
former_ended lane end (l ∷ []) = refl
former_ended lane end (l ∷ m ∷ ls) = ap (λ (o : Option ℕ). place_behind o (l.lane == lane)) (former_ended lane end (m ∷ ls))

-- a pass that has seen more
pub timely_up : (low high : ℕ) (ls : List Listed) → low ≤ high → All (IsTimely low) ls → All (IsTimely high) ls
timely_up low high ls up all = λ k d i. let h = all k d i in let m = h.met in record { ended = h.ended; met = omega arith }

-- a pass that has seen more
pub pass_up : (low high : ℕ) (ls : List Listed) (places : List (Option ℕ)) → IsPass low ls places → low ≤ high → IsPass high ls places
pass_up low high ls places p up = record { timely = timely_up low high ls up p.timely; noted = p.noted }

timely_ended : (seen end : ℕ) (ls : List Listed) → seen ≤ end → All (IsTimely seen) ls → All (IsTimely end) (with_end end ls)
timely_ended seen end [] up all = All-nil (IsTimely end)
timely_ended seen end (l ∷ []) up all =
    let h = all 0 l (omega arith) in let a = h.ended in let b = h.met in
    All-cons (IsTimely end) (record l { end = end }) [] (record { ended = omega arith; met = omega arith }) (All-nil (IsTimely end))
timely_ended seen end (l ∷ m ∷ ls) up all =
    let h = all 0 l (omega arith) in let a = h.ended in let b = h.met in
    All-cons (IsTimely end) l (with_end end (m ∷ ls)) (record { ended = a; met = omega arith }) (timely_ended seen end (m ∷ ls) up (λ k d i. all (suc k) d (omega arith)))

-- the last call has an end that the pass has seen
pub pass_ended : (seen end : ℕ) (ls : List Listed) (places : List (Option ℕ)) → IsPass seen ls places → end ≡ seen → IsPass seen (with_end end ls) places
pass_ended seen end ls places p same = rw same (record {
  timely = timely_ended seen seen ls (omega arith) p.timely;
  noted = λ lane low. p.noted lane low ∙ sym (former_ended lane seen ls);
})

-- one call more, whose place is noted
pub pass_more : (seen : ℕ) (ls : List Listed) (places : List (Option ℕ)) (l : Listed) → IsPass seen ls places → IsTimely seen l → l.lane < most_lanes → length places ≡ most_lanes
    → IsPass seen (ls ++ l ∷ []) (set places l.lane (Some (length ls)))
pass_more seen ls places l p timely low many = record {
  timely = All-append (IsTimely seen) ls (l ∷ []) p.timely (All-cons (IsTimely seen) l [] timely (All-nil (IsTimely seen)));
  noted = λ lane below. ⊎_elim {C = get_or (set places l.lane (Some (length ls))) lane None ≡ former_at lane (ls ++ l ∷ [])}
      (λ here. let same : get_or (set places l.lane (Some (length ls))) l.lane None ≡ Some (length ls) = get_or-set_same places l.lane (Some (length ls)) None (omega arith) in
      rw (← here) (same ∙ sym (former_here l.lane ls l refl)))
      (λ other. get_or-set_other places l.lane lane (Some (length ls)) None (λ e. other (sym e)) ∙ (p.noted lane below ∙ sym (former_else lane ls l other)))
      (cases_eq l.lane lane);
}

pub with_end_snoc : (end : ℕ) (ls : List Listed) (l : Listed) → with_end end (ls ++ l ∷ []) ≡ ls ++ record l { end = end } ∷ []
with_end_snoc end [] l = refl
with_end_snoc end (m ∷ []) l = refl
with_end_snoc end (m ∷ k ∷ ls) l = ap (λ (r : List Listed). m ∷ r) (with_end_snoc end (k ∷ ls) l)

-- one call more, at a stamp
pub stamps_more : (cs ds : List Noted) (n : Noted) → ds ≡ cs ++ n ∷ [] → All (λ m. m.point < 2 ^ 63) cs → n.point < 2 ^ 63 → All (λ m. m.point < 2 ^ 63) ds
stamps_more cs ds n is all low = rw is (All-append (λ (m : Noted). m.point < 2 ^ 63) cs (n ∷ []) all (All-cons (λ (m : Noted). m.point < 2 ^ 63) n [] low (All-nil (λ (m : Noted). m.point < 2 ^ 63))))
