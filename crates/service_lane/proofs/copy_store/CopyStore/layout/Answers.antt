-- What is true of every such store.
use Rattle.std.proofs.Common.{subst}
use Rattle.service_lane.specs.Asked.{IsServed}
use Rattle.service_lane.specs.Copies.{AreCopies, CopyAsked}
use denote.Param.{param, number}
use Rattle.service_lane.proofs.Fitting.{store_fits}
use Rattle.service_lane.proofs.copy_store.CopyStore.layout.Goals as goal

pub returns-clause-served : goal.returns-clause-served
returns-clause-served g c =
    let d = g.D.PageDevice in
    subst (λ (s : CopyAsked g.row.D.Denot). IsServed d.honest d.held (record { store = s.store; deeds = s.deeds })) c.self.view_is c.layout.ensures.served

pub returns-clause-copied : goal.returns-clause-copied
returns-clause-copied g c = subst (λ (s : CopyAsked g.row.D.Denot). AreCopies g.D.PageDevice.honest s) c.self.view_is c.self.invariant

pub layout-requires : goal.layout-requires
layout-requires g c = store_fits (param 0 g.row.D) (param 1 (number g.row.PAGE)) g.D.PageDevice assumption
