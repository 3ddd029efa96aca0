-- What a step of upkeep tells.
use Rattle.std.proofs.Common.{sym, ◌∙◌}
use Rattle.service_lane.proofs.lane.ServiceLane.upkeep_step.Goals as goal

pub returns-clause-upkept : goal.returns-clause-upkept
returns-clause-upkept g c = c.do_due-did.ensures.upkept

pub returns-clause-asked : goal.returns-clause-asked
returns-clause-asked g c = c.may_ask.ensures

pub returns-clause-unasked : goal.returns-clause-unasked
returns-clause-unasked g c asks = c.do_due-did.ensures.unasked (sym c.may_ask.ensures ∙ asks)

pub do_due-did-requires : goal.do_due-did-requires
do_due-did-requires g c = assumption

pub log_usage-requires : goal.log_usage-requires
log_usage-requires g c = assumption
