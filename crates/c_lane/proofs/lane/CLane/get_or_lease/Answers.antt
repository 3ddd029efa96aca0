-- A get, and the lease after one that missed.
use Rattle.std.proofs.Common.{refl, sym, subst, ◌∙◌}
use Rattle.c_lane.specs.Getting.{Answers}
use Rattle.c_lane.specs.Lane.{LaneState, laws_of}
use Rattle.c_lane.proofs.Getting.{leased, unleased}
use Rattle.c_lane.proofs.lane.CLane.get_or_lease.Goals as goal

pub returns-then-is_miss-clause-answered : goal.returns-then-is_miss-clause-answered
returns-then-is_miss-clause-answered g c is =
    let d = g.D.PageDevice in
    let laws = laws_of d.honest d.failures d.held in
    let a = c.args in
    let i = c.self.inside in
    let got = c.get-status in
    let mid : LaneState g.row.D.Denot = record { serving = i.lane; words = i.words } in
    let new : LaneState g.row.D.Denot = record { serving = c.lease.new.self; words = i.words } in
    let answers : Answers laws a.key.now a.moment a.into.now a.self.now got.result mid got.new.into got.new.hit =
    subst (λ (s : LaneState g.row.D.Denot). Answers laws a.key.now a.moment a.into.now a.self.now got.result s got.new.into got.new.hit) (sym c.self.view_is) (got.ensures.answered is) in
    leased laws a.key.now a.moment a.into.now a.self.now got.result mid got.new.into got.new.hit a.lease.now new c.lease.result answers (sym c.is_miss.ensures ∙ c.if-is_miss.true) c.lease.ensures.leaves c.lease.ensures.lease refl

pub returns-else-is_miss-clause-answered : goal.returns-else-is_miss-clause-answered
returns-else-is_miss-clause-answered g c is =
    let d = g.D.PageDevice in
    let a = c.args in
    let got = c.get-status in
    unleased (laws_of d.honest d.failures d.held) a.key.now a.moment a.into.now a.self.now got.result got.new.self got.new.into got.new.hit a.lease.now (got.ensures.answered is) (sym c.is_miss.ensures ∙ c.if-is_miss.false)
