use Rattle.std.proofs.Common.{◌∙◌, ap, length}
use denote.Param.{param, number}
use Rattle.service_cache.proofs.Fitting.{lane_fits}
use Rattle.service_cache.proofs.lane.SeatedLane.memory_len.Goals as goal

pub returns : goal.returns
returns g c = c.memory_len.ensures ∙ ap (λ s. length s.serving.store.memory.pairs) c.self.view_is

pub memory_len-requires : goal.memory_len-requires
memory_len-requires g c = lane_fits (param 0 g.row.D) (param 1 (number g.row.PAGE)) (param 2 g.row.L) (param 3 g.row.J) g.D.PageDevice g.L.KeyLanes g.J.BookName assumption
