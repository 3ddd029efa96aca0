use Rattle.std.proofs.Common.{◌∙◌, ap}
use Rattle.klog.specs.Usage.{usage_of}
use denote.Param.{param, number}
use Rattle.service_cache.proofs.Fitting.{lane_fits}
use Rattle.service_cache.proofs.lane.SeatedLane.log_usage.Goals as goal

pub returns : goal.returns
returns g c = c.log_usage.ensures ∙ ap (λ s. usage_of s.serving.store.log) c.self.view_is

pub log_usage-requires : goal.log_usage-requires
log_usage-requires g c = lane_fits (param 0 g.row.D) (param 1 (number g.row.PAGE)) (param 2 g.row.L) (param 3 g.row.J) g.D.PageDevice g.L.KeyLanes g.J.BookName assumption
