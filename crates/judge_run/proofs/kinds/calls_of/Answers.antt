-- One call more, which is of the kind or not.
use Rattle.std.proofs.Common.{◌≡◌, ◌∙◌, ◌≤◌, ◌+◌, ℕ, Bool, true, false, List, Some, ap, arith, cond, count_by, refl, slice_get, sym, take}
use Rattle.std.proofs.lemmas.List.Sums.{sum_by_push}
use Rattle.certificate_checker.proofs.public_laws.Lookups.{take_next}
use Rattle.trace_file.specs.declared.call.Call.{Call}
use Rattle.trace_file.specs.declared.call_kind.CallKind.{CallKind}
use Rattle.judge_run.specs.Kinds.{is_of}
use Rattle.judge_run.proofs.kinds.calls_of.Goals.{then-is_of, else-is_of}
use Rattle.judge_run.proofs.kinds.calls_of.Goals as goal

yes_more : (n : ℕ) (is_one : Bool) → is_one ≡ true → n + 1 ≡ n + cond is_one 1 0
yes_more n true is = refl
yes_more n false is = absurd cc

no_more : (n : ℕ) (is_one : Bool) → is_one ≡ false → n ≡ n + cond is_one 1 0
no_more n true is = absurd cc
no_more n false is = omega arith

most : (is_one : Bool) → cond is_one 1 0 ≤ 1
most true = omega arith
most false = omega arith

same_bit : (n : ℕ) (a b : Bool) → a ≡ b → n + cond b 1 0 ≡ n + cond a 1 0
same_bit n a b same = ap (λ (c : Bool). n + cond c 1 0) (sym same)

one_more : (kind : CallKind) (history : List Call) (position before after : ℕ) (call : Call) (is_one : Bool) → slice_get history position ≡ Some call → is_one ≡ is_of kind call → (before ≡ count_by (is_of kind) (take position history)) × (before ≤ position) → after ≡ before + cond is_one 1 0 → (after ≡ count_by (is_of kind) (take (position + 1) history)) × (after ≤ position + 1)
one_more kind history position before after call is_one found same here is =
    let front : count_by (is_of kind) (take (position + 1) history) ≡ count_by (is_of kind) (take position history) + cond (is_of kind call) 1 0 =
    ap (count_by (is_of kind)) (take_next history position call found) ∙ sum_by_push (λ c. cond (is_of kind c) 1 0) (take position history) call in
    let last = same_bit (count_by (is_of kind) (take position history)) is_one (is_of kind call) same in
    let little = most is_one in
    (omega (arith, front, last, is, here.0), omega (arith, is, little, here.1))

pub loop-position-preserved : goal.loop-position-preserved
loop-position-preserved c = elim c.if-is_of.branch [
  | then-is_of w ↦ one_more c.args.kind c.args.history.now c.loop-position.position c.loop-position.calls c.if-is_of.calls _ c.is_of.result c.at.ensures.call c.is_of.ensures c.loop-position.invariant (w.calls-is ∙ yes_more c.loop-position.calls c.is_of.result w.if-is_of.true)
  | else-is_of w ↦ one_more c.args.kind c.args.history.now c.loop-position.position c.loop-position.calls c.if-is_of.calls _ c.is_of.result c.at.ensures.call c.is_of.ensures c.loop-position.invariant (w.calls-is ∙ no_more c.loop-position.calls c.is_of.result w.if-is_of.false)
]
