-- A step that flushes has done a page.
use Rattle.service_tests.proofs.LaneRows.{page_done}
use Rattle.service_tests.proofs.tests.lane.rows.upkeep_seals_nothing.Goals as goal

pub returns : goal.returns
returns g c = λ answer is.
    page_done g.row.PAGE g.D.PageDevice.honest g.D.PageDevice.failures g.D.PageDevice.held (g.P.EvictionPolicy.plan_of c.args.policy.now) c.args.lane.now c.upkeep_step-step.result.did c.upkeep_step-step.new.self answer is c.upkeep_step-step.ensures.upkept

pub upkeep_step-step-requires : goal.upkeep_step-step-requires
upkeep_step-step-requires g c = assumption
