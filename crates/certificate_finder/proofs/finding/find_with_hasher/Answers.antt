use Rattle.std.proofs.Common.{length, sym, ap, subst, arith}
use Rattle.std.specs.Prelude.{All}
use Rattle.certificate_finder.specs.Steps.{AreSteps, IsFit}
use Rattle.certificate_finder.proofs.FaultLemmas.{none_reversed}
use Rattle.certificate_finder.proofs.FoundLemmas.{none_left}
use Rattle.certificate_finder.proofs.finding.find_with_hasher.Goals as goal

pub found_of-requires-clause-few : goal.found_of-requires-clause-few
found_of-requires-clause-few g c = let count = c.in_ok-steps.ensures.count in let same = ap length c.as_slice.ensures.value in omega arith

pub found_of-requires-clause-fit : goal.found_of-requires-clause-fit
found_of-requires-clause-fit g c = subst (λ s. All IsFit s) (sym c.as_slice.ensures.value) c.in_ok-steps.ensures.fit

pub returns-in-Ok-clause-accepted : goal.returns-in-Ok-clause-accepted
returns-in-Ok-clause-accepted g c = (c.in-Ok.ensures c.args.history.now (subst (λ s. AreSteps c.args.history.now s) (sym c.as_slice.ensures.value) c.in_ok-steps.ensures) (none_reversed c.args.history.now c.in_ok-reversed.reversed.items c.in_ok-reversed.ensures (none_left c.in_ok-reversed.reversed.items c.as_slice-bad.result.now c.as_slice-bad.ensures.value c.if-not-is_empty.ensures))).accepted

pub returns-in-Ok-clause-rejected : goal.returns-in-Ok-clause-rejected
returns-in-Ok-clause-rejected g c = (c.in-Ok.ensures c.args.history.now (subst (λ s. AreSteps c.args.history.now s) (sym c.as_slice.ensures.value) c.in_ok-steps.ensures) (none_reversed c.args.history.now c.in_ok-reversed.reversed.items c.in_ok-reversed.ensures (none_left c.in_ok-reversed.reversed.items c.as_slice-bad.result.now c.as_slice-bad.ensures.value c.if-not-is_empty.ensures))).rejected

pub returns-in-Ok-clause-first : goal.returns-in-Ok-clause-first
returns-in-Ok-clause-first g c = (c.in-Ok.ensures c.args.history.now (subst (λ s. AreSteps c.args.history.now s) (sym c.as_slice.ensures.value) c.in_ok-steps.ensures) (none_reversed c.args.history.now c.in_ok-reversed.reversed.items c.in_ok-reversed.ensures (none_left c.in_ok-reversed.reversed.items c.as_slice-bad.result.now c.as_slice-bad.ensures.value c.if-not-is_empty.ensures))).first

pub returns-in-Ok-clause-undecided : goal.returns-in-Ok-clause-undecided
returns-in-Ok-clause-undecided g c = (c.in-Ok.ensures c.args.history.now (subst (λ s. AreSteps c.args.history.now s) (sym c.as_slice.ensures.value) c.in_ok-steps.ensures) (none_reversed c.args.history.now c.in_ok-reversed.reversed.items c.in_ok-reversed.ensures (none_left c.in_ok-reversed.reversed.items c.as_slice-bad.result.now c.as_slice-bad.ensures.value c.if-not-is_empty.ensures))).undecided
