-- What of a text is judged.
use Rattle.std.specs.Prelude.{◌≡◌, ℕ, Bool, true, false, List, ◌++◌, length, map, Option, Some, None, IfSome, Ok}
use Rattle.certificate_finder.specs.declared.warmed.Warmed.{Warmed}
use Rattle.certificate_finder.specs.Warming.{IsWarmed}
use Rattle.clock_skew.specs.Widening.{widened}
use Rattle.history_text.specs.Text.{Text, read_by, text_by, text_of}
use Rattle.judge_run.specs.declared.extent.Extent.{Extent}
use Rattle.judge_run.specs.declared.scope.Scope.{Scope}
use Rattle.judge_run.specs.Telling.{lines_at}

-- the calls of a text as they are judged: each widened by the skew of the stamps
abbrev pub text_scoped : Scope → Text → Text
text_scoped scope text = text_by (map (widened scope.skew) text.calls) text.lines text.callers

-- the text is warmed: after its calls stand puts of all values that are taken as there from the start, so many. Each has the line of the hit that reads its value first
pub record IsWarmedText (text judged : Text) (added : Option ℕ) : Type 0 where
  pub warm : Warmed
  pub is : IsWarmed text.calls warm
  pub calls_are : judged.calls ≡ warm.history
  pub lines_are : judged.lines ≡ text.lines ++ lines_at text.lines warm.hits.items
  pub callers_are : judged.callers ≡ text.callers
  pub added_is : added ≡ Some (length warm.hits.items)

-- the text is warmed, if that is wanted
abbrev pub IsWarmedIf : Bool → Text → Text → Option ℕ → Type 0
IsWarmedIf true text judged added = IsWarmedText text judged added
IsWarmedIf false text judged added = (judged ≡ text) × (added ≡ None)

-- a number is told exactly if that is asked for
abbrev pub IsCounted : Bool → ℕ → Option ℕ → Type 0
IsCounted true count told = told ≡ Some count
IsCounted false count told = told ≡ None

-- the bytes, if they are known, spell a text that is judged so in a scope. No call of it was forgotten
pub record IsJudged (scope : Scope) (known : Option (List ℕ)) (judged : Text) (extent : Extent) : Type 0 where
  pub spelled : Text
  pub passed : ℕ
  pub read : IfSome known (λ bytes. text_of scope.reading bytes ≡ Ok (read_by spelled passed))
  pub skipped : IsCounted scope.reading.skip_bad passed extent.skipped
  pub warmed : IsWarmedIf scope.warm (text_scoped scope spelled) judged extent.from_start
  pub held : extent.forgotten ≡ None
