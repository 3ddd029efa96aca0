-- One call more, which is a hit or not.
use Rattle.std.proofs.Common.{◌≡◌, ◌∙◌, ◌≤◌, ◌+◌, ℕ, Bool, true, false, List, Some, ap, arith, cond, count_by, refl, slice_get, sym, take}
use Rattle.std.proofs.lemmas.List.Sums.{sum_by_push}
use Rattle.certificate_checker.proofs.public_laws.Lookups.{take_next}
use Rattle.trace_file.specs.declared.call.Call.{Call}
use Rattle.load_run.specs.Summaries.{is_hit}
use Rattle.load_run.proofs.hits.hits_of.Goals.{then-is_hit, else-is_hit}
use Rattle.load_run.proofs.hits.hits_of.Goals as goal

yes_more : (n : ℕ) (hit : Bool) → hit ≡ true → n + 1 ≡ n + cond hit 1 0
yes_more n true is = refl
yes_more n false is = absurd cc

no_more : (n : ℕ) (hit : Bool) → hit ≡ false → n ≡ n + cond hit 1 0
no_more n true is = absurd cc
no_more n false is = omega arith

most : (hit : Bool) → cond hit 1 0 ≤ 1
most true = omega arith
most false = omega arith

same_bit : (n : ℕ) (a b : Bool) → a ≡ b → n + cond b 1 0 ≡ n + cond a 1 0
same_bit n a b same = ap (λ (c : Bool). n + cond c 1 0) (sym same)

one_more : (history : List Call) (position before after : ℕ) (call : Call) (hit : Bool) → slice_get history position ≡ Some call → hit ≡ is_hit call → (before ≡ count_by is_hit (take position history)) × (before ≤ position) → after ≡ before + cond hit 1 0 → (after ≡ count_by is_hit (take (position + 1) history)) × (after ≤ position + 1)
one_more history position before after call hit found same here is =
    let front : count_by is_hit (take (position + 1) history) ≡ count_by is_hit (take position history) + cond (is_hit call) 1 0 =
    ap (count_by is_hit) (take_next history position call found) ∙ sum_by_push (λ c. cond (is_hit c) 1 0) (take position history) call in
    let last = same_bit (count_by is_hit (take position history)) hit (is_hit call) same in
    let little = most hit in
    (omega (arith, front, last, is, here.0), omega (arith, is, little, here.1))

pub loop-position-preserved : goal.loop-position-preserved
loop-position-preserved c = elim c.if-is_hit.branch [
  | then-is_hit w ↦ one_more c.args.history.now c.loop-position.position c.loop-position.hits c.if-is_hit.hits _ c.is_hit.result c.at.ensures.call c.is_hit.ensures c.loop-position.invariant (w.hits-is ∙ yes_more c.loop-position.hits c.is_hit.result w.if-is_hit.true)
  | else-is_hit w ↦ one_more c.args.history.now c.loop-position.position c.loop-position.hits c.if-is_hit.hits _ c.is_hit.result c.at.ensures.call c.is_hit.ensures c.loop-position.invariant (w.hits-is ∙ no_more c.loop-position.hits c.is_hit.result w.if-is_hit.false)
]
