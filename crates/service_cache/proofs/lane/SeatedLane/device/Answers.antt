use Rattle.std.proofs.Common.{◌∙◌, ap}
use denote.Param.{param, number}
use Rattle.service_cache.proofs.Fitting.{lane_fits}
use Rattle.service_cache.proofs.lane.SeatedLane.device.Goals as goal

pub returns : goal.returns
returns g c = c.device.ensures ∙ ap (λ s. s.serving.store.device) c.self.view_is

pub device-requires : goal.device-requires
device-requires g c = lane_fits (param 0 g.row.D) (param 1 (number g.row.PAGE)) (param 2 g.row.L) (param 3 g.row.J) g.D.PageDevice g.L.KeyLanes g.J.BookName assumption
