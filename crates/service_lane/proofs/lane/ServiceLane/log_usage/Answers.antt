-- The answer is that of the store inside.
use Rattle.std.proofs.Common.{ap, ◌∙◌}
use Rattle.klog.specs.Usage.{usage_of}
use Rattle.service_lane.specs.Serving.{Serving}
use denote.Param.{param, number}
use Rattle.service_lane.proofs.Fitting.{asked_fits}
use Rattle.service_lane.proofs.lane.ServiceLane.log_usage.Goals as goal

pub returns : goal.returns
returns g c = c.log_usage.ensures ∙ ap (λ (s : Serving g.row.D.Denot). usage_of s.store.log) c.self.view_is

pub log_usage-requires : goal.log_usage-requires
log_usage-requires g c = asked_fits (param 0 g.row.D) (param 1 (number g.row.PAGE)) g.D.PageDevice assumption
