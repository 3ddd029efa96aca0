-- The lane after a get, recorded or refused.
use Rattle.std.proofs.Common.{◌≡◌, ◌<◌, ◌++◌, ◌∷◌, [], refl, ap, ◌∙◌, sym, subst, arith}
use Rattle.std.specs.Prelude.{All}
use Rattle.trace_file.specs.declared.act.Act.{Act}
use Rattle.recorded_lane.specs.declared.noted.Noted.{Noted}
use Rattle.recorded_lane.specs.Lane.{Lane, IsOfLane, act_of}
use Rattle.recorded_lane.proofs.Noting.{noted_step, noted_more}
use Rattle.recorded_lane.proofs.lane.RecordedLane.get.Goals as goal

pub invariant_of-self : goal.invariant_of-self
invariant_of-self g c =
    let inside = c.self.inside in
    let old : Lane g.row.D.Denot = record { store = inside.store.store; lane = inside.lane; calls = inside.calls } in
    let new = c.get.new.self in
    noted_step old inside.store.deeds c.self.invariant new.store inside.calls new.deeds c.get.ensures.gets.reads.layout refl c.get.ensures.deeds

pub invariant_of-self-in_err-push : goal.invariant_of-self-in_err-push
invariant_of-self-in_err-push g c =
    let inside = c.self.inside in
    let old : Lane g.row.D.Denot = record { store = inside.store.store; lane = inside.lane; calls = inside.calls } in
    let new = c.get.new.self in
    noted_step old inside.store.deeds c.self.invariant new.store c.push.new.self new.deeds c.get.ensures.gets.reads.layout c.in_err-push.ensures.err c.get.ensures.deeds

pub invariant_of-self-2 : goal.invariant_of-self-2
invariant_of-self-2 g c =
    let a = c.args in
    let inside = c.self.inside in
    let old : Lane g.row.D.Denot = record { store = inside.store.store; lane = inside.lane; calls = inside.calls } in
    let n : Noted = record { caller = a.caller; start = a.start; point = a.point; key = a.key.now; act = act_of a.moment c.in_ok-answer.answer } in
    let more : c.push.new.self ≡ old.calls ++ n ∷ [] = c.in_ok-push.ensures.ok ∙ ap (λ (act : Act). old.calls ++ record n { act = act } ∷ []) c.act_lent.ensures.act in
    let new = c.note_got.new.self in
    let same = ap (λ s. s.store.layout) c.note_got.ensures ∙ c.get.ensures.gets.reads.layout in
    let longer = ap (λ s. s.deeds) c.note_got.ensures ∙ ap (λ ds. ds ++ record { key = n.key; act = n.act } ∷ []) c.get.ensures.deeds in
    let rises = subst (λ (l : Lane g.row.D.Denot). All (λ (m : Noted). m.point < a.point) l.calls) (sym c.self.view_is) c.requires.rises in
    let own = subst (λ (l : Lane g.row.D.Denot). IsOfLane l.store.layout l.lane a.key.now) (sym c.self.view_is) c.requires.own in
    noted_more old inside.store.deeds c.self.invariant n new.store c.push.new.self new.deeds more longer same c.requires.start rises own (omega arith)
