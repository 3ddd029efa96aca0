use Rattle.std.proofs.Common.{◌≡◌, ◌≤◌, ◌+◌, ℕ, Some, List, subst, sym, arith, take, length}
use Rattle.std.specs.Prelude.{slice_get}
use Rattle.std.proofs.lemmas.List.{take_all}
use Rattle.std.proofs.lemmas.List.Elements.{All-push}
use Rattle.certificate_checker.proofs.public_laws.Lookups.{take_next}
use Rattle.trace_file.specs.Lent.{call_shown}
use Rattle.trace_file.specs.declared.call.Call.{Call}
use Rattle.history_window.specs.Standing.{StartFrom}
use Rattle.history_window.proofs.streams.first_before.Goals as goal

one_more : (bound : ℕ) (history : List Call) (i : ℕ) (call : Call) → slice_get history i ≡ Some call → StartFrom bound (take i history) → bound ≤ call.start → StartFrom bound (take (i + 1) history)
one_more bound history i call at from late = subst (StartFrom bound) (sym (take_next history i call at)) (All-push (λ (c : Call). bound ≤ c.start) (take i history) call from late)

all_of : (bound : ℕ) (history : List Call) (i : ℕ) → length history ≤ i → StartFrom bound (take i history) → StartFrom bound history
all_of bound history i past from = subst (StartFrom bound) (take_all i history past) from

pub loop-position-preserved : goal.loop-position-preserved
loop-position-preserved c = one_more c.args.bound c.args.history.now c.loop-position.position (call_shown c.at.result) c.at.ensures.call c.loop-position.invariant (omega (arith, c.if-at-bound.false))

pub returns-clause-none : goal.returns-clause-none
returns-clause-none c = all_of c.args.bound c.args.history.now c.loop-position.position (omega (arith, c.loop-position-test.false, c.len-position-end.ensures.count)) c.loop-position.invariant
