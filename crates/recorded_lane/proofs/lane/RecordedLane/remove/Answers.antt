-- The lane after a removal that was recorded.
use Rattle.std.proofs.Common.{◌<◌, ◌++◌, ◌∷◌, [], ℕ, List, ap, ◌∙◌, sym, subst, arith}
use Rattle.std.specs.Prelude.{All}
use Rattle.mover.specs.Calls.{StoreRemoves}
use Rattle.trace_file.specs.declared.act.Act.TheVariants.{Remove}
use Rattle.recorded_lane.specs.declared.noted.Noted.{Noted}
use Rattle.recorded_lane.specs.Lane.{Lane, IsOfLane}
use Rattle.recorded_lane.proofs.Noting.{noted_more}
use Rattle.recorded_lane.proofs.lane.RecordedLane.remove.Goals as goal

pub invariant_of-self-2 : goal.invariant_of-self-2
invariant_of-self-2 g c =
    let a = c.args in
    let inside = c.self.inside in
    let old : Lane g.row.D.Denot = record { store = inside.store.store; lane = inside.lane; calls = inside.calls } in
    let n : Noted = record { caller = a.caller; start = a.start; point = a.point; key = a.key.now; act = Remove } in
    let new = c.remove.new.self in
    let longer = c.remove.ensures.deeds ∙ ap (λ k. inside.store.deeds ++ record { key = k; act = Remove } ∷ []) c.bytes.ensures.value in
    let rises = subst (λ (l : Lane g.row.D.Denot). All (λ (m : Noted). m.point < a.point) l.calls) (sym c.self.view_is) c.requires.rises in
    let own = subst (λ (l : Lane g.row.D.Denot). IsOfLane l.store.layout l.lane a.key.now) (sym c.self.view_is) c.requires.own in
    noted_more old inside.store.deeds c.self.invariant n new.store c.push.new.self new.deeds c.in_ok-push.ensures.ok longer c.remove.ensures.removes.layout c.requires.start rises own (omega arith)

pub returns-clause-removes : goal.returns-clause-removes
returns-clause-removes g c =
    let d = g.D.PageDevice in
    subst (λ (old : Lane g.row.D.Denot). StoreRemoves d.held c.args.key.now old.store c.remove.new.self.store) c.self.view_is (subst (λ (k : List ℕ). StoreRemoves d.held k c.self.inside.store.store c.remove.new.self.store) c.bytes.ensures.value c.remove.ensures.removes)
