-- A lane more, with its calls.
use Rattle.std.proofs.Common.{List, length, sym, ap, ◌∙◌, subst, arith}
use Rattle.std.specs.Prelude.{All}
use Rattle.std.specs.List.{flat_map}
use Rattle.std.proofs.lemmas.List.Elements.{All-push}
use Rattle.certificate_checker.specs.declared.done.Done.{Done}
use Rattle.certificate_checker.specs.Lanes.{calls_of, PointsRise}
use Rattle.recorded_tests.proofs.Rising.{calls_more}
use Rattle.recorded_tests.proofs.lanes.layouts.lanes_of.Goals as goal

pub loop-lane-preserved : goal.loop-lane-preserved
loop-lane-preserved c =
    let lanes = c.loop-lane.lanes.items in
    let lane = c.in_ok-lane_of.field-0 in
    let pushed = c.in_ok-push.ensures.items in
    let calls = ap (λ (ls : List (List Done)). length (flat_map calls_of ls)) pushed ∙ calls_more lanes lane in
    let count = c.in_ok-lane_of.ensures.count in
    let sum = c.loop-lane.invariant.1 in
    let enough = c.if-puts-left.false in (
      subst (λ (ls : List (List Done)). All PointsRise ls) (sym pushed) (All-push PointsRise lanes lane c.loop-lane.invariant.0 c.in_ok-lane_of.ensures.rise),
      omega (arith, calls, count, sum, enough),
    )
