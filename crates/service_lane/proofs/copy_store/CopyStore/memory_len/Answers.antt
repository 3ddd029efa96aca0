-- The answer is that of the store inside.
use Rattle.std.proofs.Common.{ap, ◌∙◌, length}
use Rattle.service_lane.specs.Copies.{CopyAsked}
use denote.Param.{param, number}
use Rattle.service_lane.proofs.Fitting.{store_fits}
use Rattle.service_lane.proofs.copy_store.CopyStore.memory_len.Goals as goal

pub returns : goal.returns
returns g c = c.memory_len.ensures ∙ ap (λ (s : CopyAsked g.row.D.Denot). length s.store.memory.pairs) c.self.view_is

pub memory_len-requires : goal.memory_len-requires
memory_len-requires g c = store_fits (param 0 g.row.D) (param 1 (number g.row.PAGE)) g.D.PageDevice assumption
