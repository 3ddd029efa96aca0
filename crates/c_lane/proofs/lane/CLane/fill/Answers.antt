-- A fill that the lane stored, and the help after it.
use Rattle.std.proofs.Common.{subst}
use Rattle.service_lane.specs.declared.filled.Filled.{Filled}
use Rattle.service_lane.specs.Serving.{FillLeaves}
use Rattle.c_lane.specs.Lane.{LaneState, laws_of, page_bytes, held_in}
use Rattle.c_lane.specs.Putting.{pair_of, Fills}
use Rattle.c_lane.proofs.Putting.{filled}
use Rattle.c_lane.proofs.lane.CLane.fill.Goals as goal

pub returns-in-Ok-Stored-clause-leaves : goal.returns-in-Ok-Stored-clause-leaves
returns-in-Ok-Stored-clause-leaves g c =
    let d = g.D.PageDevice in
    let laws = laws_of d.honest d.failures d.held in
    let a = c.args in
    let i = c.self.inside in
    let old : LaneState g.row.D.Denot = record { serving = i.lane; words = i.words } in
    let new : LaneState g.row.D.Denot = record { serving = c.help-helped.new.self; words = c.next_word-word.new.self } in
    let o = c.in-Ok in
    let f = c.in-Ok-Stored in
    let done = subst (λ (kind : Filled). FillLeaves page_bytes (held_in laws) (pair_of o.object.key o.object.value a.expires) c.next_word-word.result a.lease.now i.lane c.fill.new.self kind) f.field-0-is f.ensures.filled in
    subst (λ (s : LaneState g.row.D.Denot). Fills laws a.lease.now a.key.now a.value.now a.expires s new) c.self.view_is
    (filled laws a.key.now a.value.now a.expires old c.next_word-word.result c.next_word-word.new.self c.next_word-word.ensures o.object.key o.object.value f.field-0-0 c.fill.new.self c.help-helped.new.self c.help-helped.result
    o.ensures.1 o.ensures.2 c.help-helped.ensures a.lease.now done)
