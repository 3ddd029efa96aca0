-- The bits join one after the other; what a filter then admits follows from its set.
use Rattle.std.proofs.Common.{◌≡◌, ◌<◌, take, get_or, IsTrue, length, arith, sym, ap, subst, ◌∙◌}
use Rattle.std.proofs.lemmas.List.{take_more}
use Rattle.std.proofs.lemmas.Grind.{common_steps}
use Rattle.std.specs.FinSet.{FinSet, insert}
use Rattle.std.specs.Ordering.{nat_cmp}
use Rattle.bloom.specs.Filter.{with_bits, admits}
use Rattle.bloom.proofs.public_laws.FilterLaws.{with_bits-none, with_bits-push, admits-added, admits-kept}
use Rattle.bloom.proofs.filter.Filter.add.Goals as goal

pub loop-probe-init : goal.loop-probe-init
loop-probe-init c = with_bits-none c.args.self.now

pub loop-probe-preserved : goal.loop-probe-preserved
loop-probe-preserved c =
    let within : c.loop-probe.probe-index < length c.args.probes = grind (arith, common_steps) in
    let e : c.set_bit.new.self ≡ insert (with_bits c.args.self.now (take c.loop-probe.probe-index c.args.probes)) (get_or c.args.probes c.loop-probe.probe-index 0) =
    c.set_bit.ensures ∙ ap (λ f. insert f (get_or c.args.probes c.loop-probe.probe-index 0)) c.loop-probe.invariant in
    e ∙ with_bits-push _ _ _ ∙ ap (with_bits c.args.self.now) (sym (take_more c.args.probes c.loop-probe.probe-index 0 within))

pub returns-clause-bits : goal.returns-clause-bits
returns-clause-bits c = grind (arith, common_steps)

pub returns-clause-added : goal.returns-clause-added
returns-clause-added c =
    let P : FinSet nat_cmp → Type 0 = λ filter. IsTrue (admits filter c.args.probes) in
    subst P (sym (returns-clause-bits c)) (admits-added _ _)

pub returns-clause-kept : goal.returns-clause-kept
returns-clause-kept c = λ others was.
    let P : FinSet nat_cmp → Type 0 = λ filter. IsTrue (admits filter others) in
    subst P (sym (returns-clause-bits c)) (admits-kept _ c.args.probes others was)
