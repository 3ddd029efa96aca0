use Rattle.std.proofs.Common.{sym, ◌∙◌}
use Rattle.record_pages.proofs.AfterLaws.{behind_one, behind_none}
use Rattle.record_pages.specs.Lent.{record_shown}
use Rattle.record_pages.proofs.records.after_records.Goals as goal

pub loop-preserved : goal.loop-preserved
loop-preserved c =
    sym (behind_one c.args.form c.args.count c.loop.counter c.loop.rest.now (record_shown c.in-Some.field-0-0) c.in-Some.after.now c.loop-test.true (sym c.in-Some.ensures.value))
    ∙ c.loop.invariant

pub returns-in_default : goal.returns-in_default
returns-in_default c =
    sym (behind_none c.args.form c.args.count c.loop.counter c.loop.rest.now c.loop-test.true (sym c.in_default.ensures.value)) ∙ c.loop.invariant
