-- Listed calls, weighed lane by lane.
use Rattle.std.proofs.Common.{◌≡◌, ◌≢◌, ℕ, suc, ◌+◌, ◌<◌, ◌≤◌, List, [], ◌∷◌, ◌++◌, refl, ap, arith, map, sum_by, sym, cond, All, inl, inr, leb}
use Rattle.std.specs.Prelude.{◌==◌, if◌then◌else◌}
use Rattle.std.proofs.lemmas.Bool.{cases_order, eq-eqb, ne_eqb, le-leb, lt-leb}
use Rattle.std.proofs.lemmas.List.Sums.{sum_by-append, sum_by-cons}
use Rattle.std.proofs.lemmas.List.Elements.{All-head, All-tail}
use Rattle.std.specs.List.Sorted.{IsPermutation}
use Rattle.std.proofs.lemmas.List.Sorted.{sum_by-IsPermutation}
use Rattle.certificate_checker.specs.declared.done.Done.{Done}
use Rattle.certificate_checker.specs.Lanes.{Stamped, stamp}
use Rattle.shared_cache.specs.Listed.{Listed}
use Rattle.shared_cache.specs.Passes.{Ticket}
use Rattle.shared_cache.specs.Blames.{calls_in}
use Rattle.shared_cache.specs.Finished.{done_of, weigh_calls, weigh_passes}
use Rattle.shared_cache.specs.Settled.{weigh_of}

-- ---- one call

abbrev its : (Done → ℕ) → ℕ → Listed → ℕ
its h lane l = if l.lane == lane then h (done_of l) else 0

its_own : (h : Done → ℕ) (lane : ℕ) (l : Listed) → l.lane ≡ lane → its h lane l ≡ h (done_of l)
its_own h lane l of = ap (λ b. cond b (h (done_of l)) 0) (eq-eqb l.lane lane of)

its_none : (h : Done → ℕ) (lane : ℕ) (l : Listed) → l.lane ≢ lane → its h lane l ≡ 0
its_none h lane l other = ap (λ b. cond b (h (done_of l)) 0) (ne_eqb l.lane lane other)

pub weigh_own : (h : Done → ℕ) (lane : ℕ) (calls : List Listed) (l : Listed) → l.lane ≡ lane → weigh_of h lane (calls ++ l ∷ []) ≡ weigh_of h lane calls + h (done_of l)
weigh_own h lane calls l of =
    let a = sum_by-append (its h lane) calls (l ∷ []) in
    let b = sum_by-cons (its h lane) l [] in
    let c = its_own h lane l of in
    omega (arith, a, b, c)

pub weigh_other : (h : Done → ℕ) (lane : ℕ) (calls : List Listed) (l : Listed) → l.lane ≢ lane → weigh_of h lane (calls ++ l ∷ []) ≡ weigh_of h lane calls
weigh_other h lane calls l other =
    let a = sum_by-append (its h lane) calls (l ∷ []) in
    let b = sum_by-cons (its h lane) l [] in
    let c = its_none h lane l other in
    omega (arith, a, b, c)

-- ---- the calls of the lanes from a number on

abbrev past : (Stamped → ℕ) → ℕ → Listed → ℕ
past h number l = cond (leb number l.lane) (h (stamp l.lane (done_of l))) 0

abbrev pub weigh_past : (Stamped → ℕ) → ℕ → List Listed → ℕ
weigh_past h number calls = sum_by (past h number) calls

past_so : (h : Stamped → ℕ) (number : ℕ) (l : Listed) → number ≤ l.lane → past h number l ≡ h (stamp l.lane (done_of l))
past_so h number l at = ap (λ b. cond b (h (stamp l.lane (done_of l))) 0) (le-leb number l.lane at)

past_not : (h : Stamped → ℕ) (number : ℕ) (l : Listed) → l.lane < number → past h number l ≡ 0
past_not h number l below = ap (λ b. cond b (h (stamp l.lane (done_of l))) 0) (lt-leb number l.lane below)

one_step : (h : Stamped → ℕ) (number : ℕ) (l : Listed) → its (λ d. h (stamp number d)) number l + past h (suc number) l ≡ past h number l
one_step h number l = elim (cases_order l.lane number) [
  | inl same ↦
      let a = its_own (λ d. h (stamp number d)) number l same in
      let b = past_not h (suc number) l (omega arith) in
      let c = past_so h number l (omega arith) in
      let d : h (stamp number (done_of l)) ≡ h (stamp l.lane (done_of l)) = ap (λ m. h (stamp m (done_of l))) (sym same) in
      omega (arith, a, b, c, d)
  | inr apart ↦ elim apart [
    | inl below ↦
        let a = its_none (λ d. h (stamp number d)) number l (λ e. absurd (omega arith)) in
        let b = past_not h (suc number) l (omega arith) in
        let c = past_not h number l below in
        omega (arith, a, b, c)
    | inr above ↦
        let a = its_none (λ d. h (stamp number d)) number l (λ e. absurd (omega arith)) in
        let b = past_so h (suc number) l (omega arith) in
        let c = past_so h number l (omega arith) in
        omega (arith, a, b, c)
  ]
]

-- the calls of a lane and of those after it
pub lane_and_past : (h : Stamped → ℕ) (number : ℕ) (calls : List Listed) → weigh_of (λ d. h (stamp number d)) number calls + weigh_past h (suc number) calls ≡ weigh_past h number calls
lane_and_past h number [] = refl
lane_and_past h number (l ∷ calls) =
    let a = sum_by-cons (its (λ d. h (stamp number d)) number) l calls in
    let b = sum_by-cons (past h (suc number)) l calls in
    let c = sum_by-cons (past h number) l calls in
    let one = one_step h number l in
    let rest = lane_and_past h number calls in
    omega (arith, a, b, c, one, rest)

-- no call is of a lane after all
pub none_past : (h : Stamped → ℕ) (number : ℕ) (calls : List Listed) → All (λ l. l.lane < number) calls → weigh_past h number calls ≡ 0
none_past h number [] below = refl
none_past h number (l ∷ calls) below =
    let a = sum_by-cons (past h number) l calls in
    let b = past_not h number l (All-head (λ m. m.lane < number) l calls below) in
    let rest = none_past h number calls (All-tail (λ m. m.lane < number) l calls below) in
    omega (arith, a, b, rest)

-- and each is of the first or of one after it
pub all_past : (h : Stamped → ℕ) (calls : List Listed) → weigh_past h 0 calls ≡ weigh_calls h calls
all_past h [] = refl
all_past h (l ∷ calls) =
    let a = sum_by-cons (past h 0) l calls in
    let b = sum_by-cons (λ (m : Listed). h (stamp m.lane (done_of m))) l calls in
    let c = past_so h 0 l (omega arith) in
    let rest = all_past h calls in
    omega (arith, a, b, c, rest)

-- ---- sums

pub sum_by-map : {X Y : Type 0} (h : Y → ℕ) (f : X → Y) (xs : List X) → sum_by h (map f xs) ≡ sum_by (λ x. h (f x)) xs
sum_by-map h f [] = refl
sum_by-map h f (x ∷ xs) = let r = sum_by-map h f xs in let a = sum_by-cons h (f x) (map f xs) in let b = sum_by-cons (λ y. h (f y)) x xs in omega arith

-- pass by pass, or all at once
pub weigh_in : (h : Stamped → ℕ) (passes : List Ticket) → weigh_calls h (calls_in passes) ≡ weigh_passes h passes
weigh_in h [] = refl
weigh_in h (p ∷ passes) =
    let a = sum_by-append (λ (l : Listed). h (stamp l.lane (done_of l))) p.calls (calls_in passes) in
    let b = sum_by-cons (λ (q : Ticket). weigh_calls h q.calls) p passes in
    let rest = weigh_in h passes in
    omega (arith, a, b, rest)

-- passes in another order weigh the same
pub weigh_reordered : (h : Stamped → ℕ) (passes order : List Ticket) → IsPermutation passes order → weigh_passes h order ≡ weigh_passes h passes
weigh_reordered h passes order same = sum_by-IsPermutation (λ (p : Ticket). weigh_calls h p.calls) passes order same
