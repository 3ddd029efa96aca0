-- A cache that is over has as many calls as its passes list.
use Rattle.std.proofs.Common.{◌≡◌, ◌≤◌, ◌+◌, ◌*◌, ℕ, suc, Bool, true, false, cond, eqb, not, List, [], ◌∷◌, length, map, count_by, refl, sym, ap, ◌∙◌, arith, length-append}
use Rattle.std.specs.Prelude.{sum_by, flat_map}
use Rattle.std.proofs.lemmas.Bool.{eqb-true}
use Rattle.std.proofs.lemmas.List.{length-map}
use Rattle.std.proofs.lemmas.List.Sums.{sum_by-cons, count_by-le-length}
use Rattle.trace_file.specs.declared.call.Call.{Call}
use Rattle.certificate_checker.specs.declared.done.Done.{Done}
use Rattle.certificate_checker.specs.Lanes.{calls_of, stamp, stamped_from}
use Rattle.load.specs.declared.load.Load.{Load}
use Rattle.shared_cache.specs.Finished.{IsFinished, weigh_calls, weigh_passes}
use Rattle.shared_cache.specs.Passes.{Ticket}
use Rattle.load_run.specs.Wholes.{IsWhole, is_short}

-- ---- each call counts once

ones : {X : Type 0} (xs : List X) → sum_by (λ x. 1) xs ≡ length xs
ones [] = refl
ones (x ∷ xs) = let rest = ones xs in sum_by-cons (λ y. 1) x xs ∙ omega (arith, rest)

as_long : (number : ℕ) (lanes : List (List Done)) → length (flat_map calls_of lanes) ≡ length (stamped_from number lanes)
as_long number [] = refl
as_long number (lane ∷ lanes) =
    let calls = length-append (calls_of lane) (flat_map calls_of lanes) in
    let marks = length-append (map (stamp number) lane) (stamped_from (suc number) lanes) in
    let called = length-map lane (λ (done : Done). done.call) in
    let marked = length-map lane (stamp number) in
    let rest = as_long (suc number) lanes in
    omega (arith, calls, marks, called, marked, rest)

-- ---- the calls of passes of which each lists as many

short : (long operations : ℕ) (b : Bool) → eqb long operations ≡ b → cond (not b) 1 0 ≤ 0 → long ≡ operations
short long operations true is none = eqb-true long operations is
short long operations false is none = absurd (omega (arith, none))

each_whole : (operations : ℕ) (passes : List Ticket) → count_by (is_short operations) passes ≡ 0 → weigh_passes (λ s. 1) passes ≡ length passes * operations
each_whole operations [] none = omega arith
each_whole operations (p ∷ ps) none =
    let parts = sum_by-cons (λ (q : Ticket). cond (is_short operations q) 1 0) p ps in
    let here : cond (is_short operations p) 1 0 ≤ 0 = omega (arith, parts, none) in
    let there : count_by (is_short operations) ps ≡ 0 = omega (arith, parts, none) in
    let long = short (length p.calls) operations (eqb (length p.calls) operations) refl here in
    let all = sum_by-cons (λ (q : Ticket). weigh_calls (λ s. 1) q.calls) p ps in
    let own : weigh_calls (λ s. 1) p.calls ≡ length p.calls = ones p.calls in
    let rest = each_whole operations ps there in
    omega (arith, all, own, long, rest)

-- ---- and of passes of which some list fewer or more

one_least : (long operations count rest more : ℕ) (b : Bool) → eqb long operations ≡ b → rest * operations ≤ more + count * operations → suc rest * operations ≤ (long + more) + (cond (not b) 1 0 + count) * operations
one_least long operations count rest more true is before = let same = eqb-true long operations is in omega (arith, same, before)
one_least long operations count rest more false is before = omega (arith, before)

each_least : (operations : ℕ) (passes : List Ticket) → length passes * operations ≤ weigh_passes (λ s. 1) passes + count_by (is_short operations) passes * operations
each_least operations [] = omega arith
each_least operations (p ∷ ps) =
    let parts = sum_by-cons (λ (q : Ticket). cond (is_short operations q) 1 0) p ps in
    let all = sum_by-cons (λ (q : Ticket). weigh_calls (λ s. 1) q.calls) p ps in
    let own : weigh_calls (λ s. 1) p.calls ≡ length p.calls = ones p.calls in
    let here = one_least (length p.calls) operations (count_by (is_short operations) ps) (length ps) (weigh_passes (λ s. 1) ps) (eqb (length p.calls) operations) refl (each_least operations ps) in
    let times = ap (λ n. n * operations) parts in
    omega (arith, all, own, here, times)

-- ---- a run is whole if no caller stopped

module _ (load : Load) (number : ℕ) (passes : List Ticket) (history : List Call) (certificate : List ℕ) (over : IsFinished number passes history certificate) (many : length passes ≡ load.callers) where
  listed : length history ≡ weigh_passes (λ s. 1) passes
  listed = ap length over.laid_out.calls ∙ as_long 0 over.lanes ∙ sym (ones (stamped_from 0 over.lanes)) ∙ over.listed (λ s. 1)

  pub whole : (stopped : ℕ) → stopped ≡ count_by (is_short load.operations) passes → IsWhole load (length history) stopped
  whole stopped is =
      let most = count_by-le-length (is_short load.operations) passes in
      record {
        some = omega (arith, is, most, many);
        least =
            let below = each_least load.operations passes in
            let all = ap (λ n. n * load.operations) many in
            let short = ap (λ n. n * load.operations) is in
            omega (arith, below, all, short, listed);
        all = λ none. listed ∙ each_whole load.operations passes (sym is ∙ none) ∙ ap (λ n. n * load.operations) many;
      }
