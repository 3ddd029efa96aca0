-- What a step adds to the times that were added.
use Rattle.std.specs.Prelude.{ℕ, List, [], ◌∷◌, ◌++◌}
use Rattle.load.specs.declared.times_step.TimesStep.{TimesStep}
use Rattle.load.specs.declared.times_step.TimesStep.TheVariants as steps

-- the times up to a step, the first one first
abbrev pub times_after : TimesStep → List ℕ
times_after steps.Begun = []
times_after (steps.Added before time) = before.value.times ++ time.value ∷ []
times_after (steps.Merged before more) = before.value.times ++ more.value.times
