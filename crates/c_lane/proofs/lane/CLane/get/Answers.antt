-- A get that the lane answered, and what was told of it.
use Rattle.std.proofs.Common.{refl, subst}
use Rattle.c_lane.specs.Getting.{Answers}
use Rattle.c_lane.specs.Lane.{LaneState, laws_of}
use Rattle.c_lane.proofs.lane.CLane.get.Goals as goal

pub returns-clause-answered : goal.returns-clause-answered
returns-clause-answered g c is =
    let d = g.D.PageDevice in
    let laws = laws_of d.honest d.failures d.held in
    let a = c.args in
    let i = c.self.inside in
    let old : LaneState g.row.D.Denot = record { serving = i.lane; words = i.words } in
    let new : LaneState g.row.D.Denot = record { serving = c.get.new.self; words = i.words } in
    let got : Answers laws a.key.now a.moment a.into.now old c.told.result new c.told.new.into c.told.new.hit =
    record { kind = c.in-Ok.seen; value = c.get.new.found; gets = c.in-Ok.ensures.gets; expires = c.in-Ok.ensures.expires; words = refl; tells = c.told.ensures } in
    subst (λ (s : LaneState g.row.D.Denot). Answers laws a.key.now a.moment a.into.now s c.told.result new c.told.new.into c.told.new.hit) c.self.view_is got
