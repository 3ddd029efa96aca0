-- The answer is that of the store inside.
use Rattle.std.proofs.Common.{ap, ◌∙◌}
use Rattle.service_lane.specs.Serving.{Serving}
use denote.Param.{param, number}
use Rattle.service_lane.proofs.Fitting.{asked_fits}
use Rattle.service_lane.proofs.lane.ServiceLane.device.Goals as goal

pub returns : goal.returns
returns g c = c.device.ensures ∙ ap (λ (s : Serving g.row.D.Denot). s.store.device) c.self.view_is

pub device-requires : goal.device-requires
device-requires g c = asked_fits (param 0 g.row.D) (param 1 (number g.row.PAGE)) g.D.PageDevice assumption
