-- How many calls of each kind there are.
use Rattle.std.specs.Prelude.{ℕ, ◌-◌, List, [], ◌∷◌, Bool, true, false, codes, count_by, Option, Some, None}
use Rattle.trace_file.specs.declared.act.Act.{Act}
use Rattle.trace_file.specs.declared.act.Act.TheVariants as acts
use Rattle.trace_file.specs.declared.call.Call.{Call}
use Rattle.figures.specs.Figures.{Row, number, row}
use Rattle.judge_run.specs.declared.extent.Extent.{Extent}
use Rattle.judge_run.specs.declared.forgotten.Forgotten.{Forgotten}
use Rattle.judge_run.specs.Extents.{added_before, own_of, with_forgotten}
use Rattle.judge_run.specs.declared.kind_counts.KindCounts.{KindCounts}
use Rattle.trace_file.specs.declared.call_kind.CallKind.{CallKind}
use Rattle.trace_file.specs.declared.call_kind.CallKind.TheVariants.{Put, Remove, Hit, Miss}

-- whether an act is of a kind
abbrev pub is_act_of : CallKind → Act → Bool
is_act_of Put (acts.Put value expires) = true
is_act_of Put acts.Remove = false
is_act_of Put (acts.Hit value moment) = false
is_act_of Put acts.Miss = false
is_act_of Remove (acts.Put value expires) = false
is_act_of Remove acts.Remove = true
is_act_of Remove (acts.Hit value moment) = false
is_act_of Remove acts.Miss = false
is_act_of Hit (acts.Put value expires) = false
is_act_of Hit acts.Remove = false
is_act_of Hit (acts.Hit value moment) = true
is_act_of Hit acts.Miss = false
is_act_of Miss (acts.Put value expires) = false
is_act_of Miss acts.Remove = false
is_act_of Miss (acts.Hit value moment) = false
is_act_of Miss acts.Miss = true

-- whether a call is of a kind
abbrev pub is_of : CallKind → Call → Bool
is_of kind call = is_act_of kind call.act

-- how many calls are of a kind
abbrev pub calls_of : CallKind → List Call → ℕ
calls_of kind calls = count_by (is_of kind) calls

-- how many calls of each kind there are
abbrev pub counts_in : List Call → KindCounts
counts_in calls = record { puts = calls_of Put calls; removals = calls_of Remove calls; hits = calls_of Hit calls; misses = calls_of Miss calls }

-- how many calls of a kind were judged and forgotten
abbrev pub gone_of : CallKind → Option Forgotten → ℕ
gone_of kind None = 0
gone_of Put (Some gone) = gone.puts
gone_of Remove (Some gone) = gone.removals
gone_of Hit (Some gone) = gone.hits
gone_of Miss (Some gone) = gone.misses

-- so many calls of a kind, and those that were forgotten
abbrev pub told_of : CallKind → Extent → ℕ → ℕ
told_of kind extent own = with_forgotten own (gone_of kind extent.forgotten)

-- how many calls of each kind were judged; puts that were added don't count
abbrev pub kind_rows : Extent → List Call → List Row
kind_rows extent calls =
    row (codes "puts") (number (told_of Put extent (own_of extent (calls_of Put calls)) - added_before extent.forgotten))
    ∷ row (codes "removals") (number (told_of Remove extent (calls_of Remove calls)))
    ∷ row (codes "hits") (number (told_of Hit extent (calls_of Hit calls)))
    ∷ row (codes "misses") (number (told_of Miss extent (calls_of Miss calls)))
    ∷ []
