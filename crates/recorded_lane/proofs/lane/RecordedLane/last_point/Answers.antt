-- The last call by its place, and that points rise.
use Rattle.std.proofs.Common.{◌≡◌, ◌≤◌, ◌-◌, length, Some, sym, ap, ◌∙◌, subst}
use Rattle.std.specs.Prelude.{All, slice_get}
use Rattle.recorded_lane.specs.declared.noted.Noted.{Noted}
use Rattle.recorded_lane.specs.Lane.{Lane, last_point}
use Rattle.recorded_lane.specs.Points.{noted_shown}
use Rattle.recorded_lane.proofs.Points.{last_greatest, last_within, last_is, no_last, none_greater}
use Rattle.recorded_lane.proofs.lane.RecordedLane.last_point.Goals as goal

pub at-requires : goal.at-requires
at-requires g c = last_within c.len-count.result (length c.self.inside.calls) c.if-count-eq0.false c.len-count.ensures

pub returns-then-count-eq0 : goal.returns-then-count-eq0
returns-then-count-eq0 g c =
    let calls = c.args.self.now.calls in
    let none : length calls ≡ 0 = sym (c.len-count.ensures ∙ ap (λ (l : Lane g.row.D.Denot). length l.calls) c.self.view_is) ∙ c.if-count-eq0.true in
    record { value = no_last calls none; greatest = none_greater calls none }

pub returns-clause-value : goal.returns-clause-value
returns-clause-value g c =
    let calls = c.self.inside.calls in
    let last : slice_get calls (length calls - 1) ≡ Some (noted_shown c.at.result) = subst (λ n. slice_get calls (n - 1) ≡ Some (noted_shown c.at.result)) c.len-count.ensures c.at.ensures.call in
    last_is calls (noted_shown c.at.result) last ∙ ap (λ (l : Lane g.row.D.Denot). last_point l.calls) c.self.view_is

pub returns-clause-greatest : goal.returns-clause-greatest
returns-clause-greatest g c =
    let calls = c.self.inside.calls in
    let last : slice_get calls (length calls - 1) ≡ Some (noted_shown c.at.result) = subst (λ n. slice_get calls (n - 1) ≡ Some (noted_shown c.at.result)) c.len-count.ensures c.at.ensures.call in
    subst (λ (l : Lane g.row.D.Denot). All (λ (m : Noted). m.point ≤ c.at.result.point) l.calls) c.self.view_is (last_greatest calls (noted_shown c.at.result) c.self.invariant.points last)
