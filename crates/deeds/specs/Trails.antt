-- What a step adds to what was asked and answered.
use Rattle.std.specs.Prelude.{List, [], ◌∷◌, ◌++◌}
use Rattle.trace_file.specs.Lent.{act_shown}
use Rattle.certificate_checker.specs.Deeds.{Deed}
use Rattle.deeds.specs.declared.trail_step.TrailStep.{TrailStep}
use Rattle.deeds.specs.declared.trail_step.TrailStep.TheVariants as steps

-- the deeds after a step, the first one first
abbrev pub deeds_after : TrailStep → List Deed
deeds_after steps.Opened = []
deeds_after (steps.Acted before key act) = before.value.deeds ++ record { key = key.value.now; act = act_shown act.value } ∷ []
