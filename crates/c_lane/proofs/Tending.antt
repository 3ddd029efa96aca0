-- What a step of upkeep is to callers in C.
use Rattle.std.proofs.Common.{◌≡◌, Bool, false, refl, ap, ◌∙◌}
use Rattle.std.specs.Prelude.{is_some}
use Rattle.page_device.specs.Counting.{CountedDevice}
use Rattle.rriparoo.specs.Rriparoo.{rriparoo_plan}
use Rattle.service_lane.specs.declared.upkept.Upkept.{Upkept}
use Rattle.service_lane.specs.Serving.{Serving}
use Rattle.service_lane.specs.Upkeep.{Upkeeps, may_ask, due_in}
use Rattle.c_lane.specs.declared.step.Step.{Step}
use Rattle.c_lane.specs.Lane.{LaneState, Laws, page_bytes, honest_in, failures_in, held_in}
use Rattle.c_lane.specs.Tending.{step_with, Tends}

-- the lane did a step, and told it
pub tends : {D : Type 0} (laws : Laws D) (old : LaneState D) (after : Serving (CountedDevice D)) (did : Upkept) (asked due : Bool) (told : Step) →
    Upkeeps page_bytes (honest_in laws) (failures_in laws) (held_in laws) rriparoo_plan old.serving did after → asked ≡ may_ask did →
    (asked ≡ false → after.store.device ≡ old.serving.store.device) → due ≡ is_some (due_in after) → told ≡ step_with did asked due →
    Tends laws old told (record { serving = after; words = old.words })
tends laws old after did asked due told upkept asked_is unasked due_is told_is = record {
  did = did;
  upkept = upkept;
  unasked = λ not. unasked (asked_is ∙ not);
  words = refl;
  told_is = told_is ∙ ap (λ (b : Bool). step_with did b due) asked_is ∙ ap (λ (b : Bool). step_with did (may_ask did) b) due_is;
}
