-- What an act asks and does, by its operation.
use Rattle.std.proofs.Common.{◌≡◌, ◌<◌, refl, sym, subst}
use Rattle.std.specs.Prelude.{All}
use Rattle.trace_file.specs.declared.act.Act.TheVariants.{Put}
use Rattle.recorded_lane.specs.declared.noted.Noted.{Noted}
use Rattle.history_recorder.specs.declared.operation.Operation.TheVariants as operations
use Rattle.history_recorder.specs.declared.operation.Operation.{Operation}
use Rattle.history_recorder.specs.Game.{LaneActs}
use Rattle.history_recorder.specs.Operations.{lane_of}
use Rattle.history_recorder.proofs.lane_played.RecordedLanePlayedLane.act.Goals as goal

pub act_get-requires : goal.act_get-requires
act_get-requires g c =
    let old = c.args.self.now in
    (assumption, (c.requires.start, (c.requires.rises, subst (λ (o : Operation). lane_of old.store.layout o ≡ old.lane) c.in-Get.is c.requires.its)))

pub act_put-requires : goal.act_put-requires
act_put-requires g c =
    let old = c.args.self.now in
    let put = c.in-Put in
    let back = sym c.in_ok-noted-in-Put.ensures in (
      assumption,
      (
        subst (λ (n : Noted). n.start < n.point) back c.requires.start,
        (
          subst (λ (n : Noted). All (λ (m : Noted). m.point < n.point) old.calls) back c.requires.rises,
          (
            subst (λ (o : Operation). lane_of old.store.layout o ≡ old.lane) put.is c.requires.its,
            subst (λ (n : Noted). n ≡ record n { key = put.key; act = Put put.value put.expires }) back refl,
          ),
        ),
      ),
    )

pub act_remove-requires : goal.act_remove-requires
act_remove-requires g c =
    let old = c.args.self.now in
    (assumption, (c.requires.start, (c.requires.rises, subst (λ (o : Operation). lane_of old.store.layout o ≡ old.lane) c.in-Remove.is c.requires.its)))

pub returns-in-Ok : goal.returns-in-Ok
returns-in-Ok g c =
    let a = c.args in
    subst (λ (o : Operation). LaneActs g.D.PageDevice.honest g.D.PageDevice.held g.row.PAGE a.stamps.caller a.stamps.start a.stamps.point o a.self.now c.in-Ok.acted c.act_get.new.recorded) (sym c.in-Get.is) c.in-Ok.ensures

pub returns-in_ok-noted-in-Put : goal.returns-in_ok-noted-in-Put
returns-in_ok-noted-in-Put g c =
    let a = c.args in
    let put = c.in-Put in
    let acts : Operation → Noted → Type 0 = λ o n. LaneActs g.D.PageDevice.honest g.D.PageDevice.held g.row.PAGE n.caller n.start n.point o a.self.now c.act_put.result c.act_put.new.recorded in
    subst (λ (o : Operation). acts o (record { caller = a.stamps.caller; start = a.stamps.start; point = a.stamps.point; key = put.key; act = Put put.value put.expires })) (sym put.is) (subst (acts (operations.Put put.key put.value put.word put.expires)) c.in_ok-noted-in-Put.ensures c.act_put.ensures)

pub returns-in-Remove : goal.returns-in-Remove
returns-in-Remove g c =
    let a = c.args in
    subst (λ (o : Operation). LaneActs g.D.PageDevice.honest g.D.PageDevice.held g.row.PAGE a.stamps.caller a.stamps.start a.stamps.point o a.self.now c.act_remove.result c.act_remove.new.recorded) (sym c.in-Remove.is) c.act_remove.ensures
