-- The store fits in memory, as the whole does.
use denote.Param.{param, number}
use Rattle.service_lane.proofs.Fitting.{store_fits}
use Rattle.service_lane.proofs.copy_store.CopyStore.log_usage.Goals as goal

pub log_usage-requires : goal.log_usage-requires
log_usage-requires g c = store_fits (param 0 g.row.D) (param 1 (number g.row.PAGE)) g.D.PageDevice assumption
