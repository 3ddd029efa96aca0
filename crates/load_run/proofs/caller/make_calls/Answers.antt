-- One call more, or the refusal at which the caller stops.
use Rattle.std.proofs.Common.{◌∙◌, inr}
use Rattle.load_run.proofs.Calling.{one_more, stopped}
use Rattle.load_run.proofs.caller.make_calls.Goals as goal

pub returns-in_default : goal.returns-in_default
returns-in_default g c =
    inr (stopped c.args.cache.now.layout c.args.load.now c.args.generator c.loop-number.number c.args.pass c.loop-number.pass c.loop-number.generator c.loop-number.invariant.1 c.make_next.new.pass c.loop-number-test.true c.in_default.ensures.refused)

pub loop-number-preserved : goal.loop-number-preserved
loop-number-preserved g c = (
  c.make_next.ensures.tie.clock ∙ c.loop-number.invariant.0,
  one_more c.args.cache.now.layout c.args.load.now c.args.generator c.loop-number.number c.args.pass c.loop-number.pass c.loop-number.generator c.loop-number.invariant.1 c.make_next.new.pass c.make_next.new.generator c.in-Ok.ensures.made c.make_next.ensures.generator c.make_next.ensures.tie.caller,
)
