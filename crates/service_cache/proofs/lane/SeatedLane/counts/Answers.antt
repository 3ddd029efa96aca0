use Rattle.std.proofs.Common.{◌∙◌, ap}
use denote.Param.{param, number}
use Rattle.service_cache.proofs.Fitting.{lane_fits}
use Rattle.service_cache.proofs.lane.SeatedLane.counts.Goals as goal

pub returns : goal.returns
returns g c = c.counts.ensures ∙ ap (λ s. s.serving.counts) c.self.view_is

pub counts-requires : goal.counts-requires
counts-requires g c = lane_fits (param 0 g.row.D) (param 1 (number g.row.PAGE)) (param 2 g.row.L) (param 3 g.row.J) g.D.PageDevice g.L.KeyLanes g.J.BookName assumption
