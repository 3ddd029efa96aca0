-- The rows that tell what was found for the history of a text.
use Rattle.std.specs.Prelude.{ℕ, List, [], ◌∷◌, ◌++◌, length, codes}
use Rattle.trace_file.specs.declared.call.Call.{Call}
use Rattle.certificate_finder.specs.declared.found.Found.{Found}
use Rattle.certificate_finder.specs.declared.found.Found.TheVariants.{Accepted, Rejected, Undecided}
use Rattle.certificate_finder.specs.declared.witness.Witness.{Witness}
use Rattle.figures.specs.Figures.{Row, number, row, word}
use Rattle.judge_run.specs.declared.extent.Extent.{Extent}
use Rattle.judge_run.specs.Extents.{extent_rows, own_of, recorded_of}
use Rattle.judge_run.specs.Kinds.{kind_rows}
use Rattle.judge_run.specs.Listing.{key_count}
use Rattle.judge_run.specs.ReasonRows.{reason_rows}
use Rattle.judge_run.specs.declared.told_fault.ToldFault.{ToldFault}

-- how many calls there are
abbrev pub calls_row : ℕ → Row
calls_row calls = row (codes "calls") (number calls)

-- the verdict, by its word
abbrev pub verdict_row : List ℕ → Row
verdict_row verdict = row (codes "verdict") (word verdict)

-- how many faults a history has, and at how many keys
abbrev pub count_rows : ℕ → ℕ → List Row
count_rows faults keys = row (codes "fault-count") (number faults) ∷ row (codes "fault-keys") (number keys) ∷ []

-- that a history is rejected, of which so many calls were recorded: what the reason speaks of, and how many faults there are
abbrev pub rejected_rows : List Call → List ℕ → ℕ → Witness → List ToldFault → List Row
rejected_rows calls lines recorded witness faults =
    verdict_row (codes "rejected") ∷ (reason_rows calls lines recorded witness ++ count_rows (length faults) (key_count calls faults))

-- that this many hits are undecided
abbrev pub undecided_rows : ℕ → List Row
undecided_rows hits = verdict_row (codes "undecided") ∷ row (codes "undecided-hits") (number hits) ∷ []

-- what was found for calls, which stand on these lines and have these faults, without their number
abbrev pub outcome_rows : List Call → List ℕ → ℕ → Found → List ToldFault → List Row
outcome_rows calls lines recorded (Accepted certificate) faults = verdict_row (codes "accepted") ∷ []
outcome_rows calls lines recorded (Rejected witness) faults = rejected_rows calls lines recorded witness faults
outcome_rows calls lines recorded (Undecided hits) faults = undecided_rows (length hits.items)

-- how many calls were recorded, how many of each kind, how they differ from those of the text, and what was found for them
abbrev pub found_rows : List Call → List ℕ → Extent → Found → List ToldFault → List Row
found_rows calls lines extent found faults =
    calls_row (recorded_of extent (length calls))
    ∷ (kind_rows extent calls ++ (extent_rows extent ++ outcome_rows calls lines (own_of extent (length calls)) found faults))
