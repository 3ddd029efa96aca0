use Rattle.std.proofs.Common.{◌≡◌, ap, ◌∙◌, drop, arith}
use Rattle.record_pages.proofs.WalkLaws.{step_gives, step_ends, step_goes}
use Rattle.record_pages.proofs.records.Records.at.Goals as goal

pub returns-then-is_none-clause-value : goal.returns-then-is_none-clause-value
returns-then-is_none-clause-value c = step_ends c.args.self c.loop.self c.next.new.self c.loop.counter c.args.slot c.next.result c.loop.invariant c.next.ensures.steps.steps c.if-is_none.ensures (omega (arith, c.loop-test.true))

pub loop-preserved : goal.loop-preserved
loop-preserved c = step_goes c.args.self c.loop.self c.next.new.self c.loop.counter c.next.result c.loop.invariant c.next.ensures.steps.steps c.if-is_none.ensures

pub returns-clause-value : goal.returns-clause-value
returns-clause-value c =
    let same : c.loop.counter ≡ c.args.slot = omega arith in
    step_gives c.args.self c.loop.self c.next-2.new.self c.args.slot c.next-2.result (c.loop.invariant ∙ ap (λ n. drop n c.args.self) same) c.next-2.ensures.steps.steps
