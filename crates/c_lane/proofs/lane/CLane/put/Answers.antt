-- A put that the lane stored, and the help after it.
use Rattle.std.proofs.Common.{subst}
use Rattle.c_lane.specs.Lane.{LaneState, laws_of}
use Rattle.c_lane.specs.Putting.{Stores}
use Rattle.c_lane.proofs.Putting.{stored}
use Rattle.c_lane.proofs.lane.CLane.put.Goals as goal

pub returns-in-Ok-put-clause-leaves : goal.returns-in-Ok-put-clause-leaves
returns-in-Ok-put-clause-leaves g c =
    let d = g.D.PageDevice in
    let laws = laws_of d.honest d.failures d.held in
    let a = c.args in
    let i = c.self.inside in
    let old : LaneState g.row.D.Denot = record { serving = i.lane; words = i.words } in
    let new : LaneState g.row.D.Denot = record { serving = c.help-helped.new.self; words = c.next_word-word.new.self } in
    let o = c.in-Ok in
    subst (λ (s : LaneState g.row.D.Denot). Stores laws a.key.now a.value.now a.expires s new) c.self.view_is
    (stored laws a.key.now a.value.now a.expires old c.next_word-word.result c.next_word-word.new.self c.next_word-word.ensures o.object.key o.object.value c.in-Ok-put.field-0 c.put.new.self c.help-helped.new.self c.help-helped.result
    o.ensures.1 o.ensures.2 c.help-helped.ensures c.in-Ok-put.ensures.stored)
