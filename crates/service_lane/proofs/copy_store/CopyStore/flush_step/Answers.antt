-- The store fits in memory, as the whole does.
use denote.Param.{param, number}
use Rattle.service_lane.proofs.Fitting.{store_fits}
use Rattle.service_lane.proofs.copy_store.CopyStore.flush_step.Goals as goal

pub flush_step-requires : goal.flush_step-requires
flush_step-requires g c = store_fits (param 0 g.row.D) (param 1 (number g.row.PAGE)) g.D.PageDevice assumption
