use Rattle.std.proofs.Common.{◌∙◌, ap}
use denote.Param.{param, number}
use Rattle.service_cache.proofs.Fitting.{lane_fits}
use Rattle.service_cache.proofs.lane.SeatedLane.layout.Goals as goal

pub returns : goal.returns
returns g c = c.layout.ensures.layout ∙ ap (λ s. s.serving.store.layout) c.self.view_is

pub layout-requires : goal.layout-requires
layout-requires g c = lane_fits (param 0 g.row.D) (param 1 (number g.row.PAGE)) (param 2 g.row.L) (param 3 g.row.J) g.D.PageDevice g.L.KeyLanes g.J.BookName assumption
