-- The store after a get, and what its answer tells.
use Rattle.deeds.specs.Asked.{Asked}
use Rattle.deeds.proofs.Serves.{served_asked, live_then}
use Rattle.deeds.proofs.store.DeedStore.get.Goals as goal

pub invariant_of-self : goal.invariant_of-self
invariant_of-self g c =
    let d = g.D.PageDevice in
    let old : Asked g.row.D.Denot = record { store = c.self.inside.store; deeds = c.self.inside.trail.deeds } in
    served_asked g.row.PAGE d.honest d.failures d.held c.get_shows.ensures old c.self.invariant c.args.key.now c.args.moment c.get.new.self c.get.result c.get.ensures

pub returns-clause-live : goal.returns-clause-live
returns-clause-live g c =
    let d = g.D.PageDevice in
    let old : Asked g.row.D.Denot = record { store = c.self.inside.store; deeds = c.self.inside.trail.deeds } in
    live_then g.row.PAGE d.honest d.failures d.held c.get_shows.ensures old c.self.invariant c.args.key.now c.args.moment c.get.new.self c.found_is_held.ensures c.get.result c.get.ensures
