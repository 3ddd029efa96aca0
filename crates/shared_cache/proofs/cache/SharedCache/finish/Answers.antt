use Rattle.std.proofs.Common.{rules, ◌≡◌, ◌≤◌, Err, length, map, sym, subst, ◌∙◌}
use Rattle.std.proofs.lemmas.List.{length-map}
use Rattle.recorded_lane.specs.Points.{noted_in}
use Rattle.shared_cache.specs.declared.lane_left.LaneLeft.{LaneLeft}
use Rattle.shared_cache.specs.Settled.{recorded_in}
use Rattle.shared_cache.proofs.Blaming.{blamed}
use Rattle.certificate_checker.proofs.public_laws.LaneEnds.{placed_apart}
use Rattle.history_recorder.specs.Operations.{lane_of_key}
use Rattle.shared_cache.specs.Over.{AreOver}
use Rattle.shared_cache.proofs.LanesOver.{rise_over, few_in, lanes_over, placed_over, lanes_as_left}
use Rattle.shared_cache.proofs.cache.SharedCache.finish.Goals as goal

pub lay_out-requires-clause-rise : goal.lay_out-requires-clause-rise
lay_out-requires-clause-rise g c =
    let by = lane_of_key c.self.inside.layout in
    let all = subst (λ ls. AreOver g.D.PageDevice.honest by 0 ls c.in_ok-left.devices.items) (sym c.in_ok-lanes.ensures.calls) c.in_ok-left.ensures.over in
    rise_over g.D.PageDevice.honest by 0 c.in_ok-lanes.lanes.items c.in_ok-left.devices.items all

pub lay_out-requires-clause-few : goal.lay_out-requires-clause-few
lay_out-requires-clause-few g c =
    let by = lane_of_key c.self.inside.layout in
    let all = subst (λ ls. AreOver g.D.PageDevice.honest by 0 ls c.in_ok-left.devices.items) (sym c.in_ok-lanes.ensures.calls) c.in_ok-left.ensures.over in
    let count : length c.in_ok-lanes.lanes.items ≡ c.self.inside.layout.lanes =
    lanes_as_left c.in_ok-lanes.lanes.items c.in_ok-left.left.items c.in_ok-lanes.ensures.calls ∙ c.in_ok-left.ensures.count ∙ c.self.invariant in
    let few : length c.in_ok-lanes.lanes.items ≤ 16 = search rules in
    few_in g.D.PageDevice.honest by c.in_ok-lanes.lanes.items c.in_ok-left.devices.items all few

pub returns-clause-finished : goal.returns-clause-finished
returns-clause-finished g c =
    let by = lane_of_key c.self.inside.layout in
    let all = subst (λ ls. AreOver g.D.PageDevice.honest by 0 ls c.in_ok-left.devices.items) (sym c.in_ok-lanes.ensures.calls) c.in_ok-left.ensures.over in
    let count : length c.in_ok-lanes.lanes.items ≡ c.self.inside.layout.lanes =
    lanes_as_left c.in_ok-lanes.lanes.items c.in_ok-left.left.items c.in_ok-lanes.ensures.calls ∙ c.in_ok-left.ensures.count ∙ c.self.invariant in
    record {
      lanes = c.in_ok-lanes.lanes.items;
      count = rw (← c.self.view_is) count;
      listed = c.in_ok-lanes.ensures.listed;
      points_rise = rise_over g.D.PageDevice.honest by 0 c.in_ok-lanes.lanes.items c.in_ok-left.devices.items all;
      laid_out = c.in-Ok.ensures.laid_out;
    }

pub returns-clause-accepted : goal.returns-clause-accepted
returns-clause-accepted g c =
    let by = lane_of_key c.self.inside.layout in
    let all = subst (λ ls. AreOver g.D.PageDevice.honest by 0 ls c.in_ok-left.devices.items) (sym c.in_ok-lanes.ensures.calls) c.in_ok-left.ensures.over in
    λ is. c.in-Ok.ensures.accepted
    (lanes_over g.D.PageDevice.honest by 0 c.in_ok-lanes.lanes.items c.in_ok-left.devices.items all c.in_ok-lanes.ensures.ended is)
    (placed_apart by c.in_ok-lanes.lanes.items (placed_over g.D.PageDevice.honest by c.in_ok-lanes.lanes.items c.in_ok-left.devices.items all))

pub returns-in_err-lanes-clause-refused : goal.returns-in_err-lanes-clause-refused
returns-in_err-lanes-clause-refused g c =
    let is : c.from_residual-in_err-lanes.result ≡ Err c.in_err-lanes.field-0.0 = search rules in
    let no = c.in_err-lanes.ensures.refused in
    let many : length (recorded_in c.in_ok-left.left.items) ≡ c.args.self.layout.lanes =
    rw (← c.self.view_is) (length-map c.in_ok-left.left.items (λ (x : LaneLeft). map noted_in x.recorded) ∙ c.in_ok-left.ensures.count ∙ c.self.invariant) in
    rw is (blamed c.args.self.callers c.args.self.layout.lanes (recorded_in c.in_ok-left.left.items) c.args.passes.items no.order _ many no.same no.why)
