-- How the program ends.
use Rattle.std.specs.Prelude.{◌≡◌, ◌⊎◌, ℕ, Result, Ok, Err, nat_lt, if◌then◌else◌}
use Rattle.judge_run.specs.declared.judge_end.JudgeEnd.{JudgeEnd}
use Rattle.judge_run.specs.declared.judge_end.JudgeEnd.TheVariants as ends
use Rattle.judge_run.specs.declared.outcome.Outcome.{Outcome}
use Rattle.judge_run.specs.declared.outcome.Outcome.TheVariants.{Accepted, Rejected, Undecided, BadLine, BadTrace}
use Rattle.judge_run.specs.declared.shown.Shown.{Shown}
use Rattle.judge_run.specs.declared.shown.Shown.TheVariants as showing
use Rattle.judge_run.specs.declared.tell_fault.TellFault.{TellFault}
use Rattle.judge_run.specs.declared.tell_fault.TellFault.TheVariants.{OutOfMemory, CountFull, ReadFault, WriteFault}

-- how it ends, by the outcome of judging
abbrev pub end_of_outcome : Outcome → JudgeEnd
end_of_outcome (Accepted acceptance) = ends.Done
end_of_outcome (Rejected rejection) = ends.Rejected
end_of_outcome (Undecided hits) = ends.Undecided
end_of_outcome (BadLine bad) = ends.BadInput
end_of_outcome (BadTrace fault) = ends.BadInput

-- how it ends, by the outcome of judging, if an accepted history has to have so many calls; puts that were added don't count
abbrev pub end_at_least : ℕ → Outcome → JudgeEnd
end_at_least least (Accepted acceptance) = if nat_lt acceptance.recorded least then ends.TooFew else ends.Done
end_at_least least (Rejected rejection) = ends.Rejected
end_at_least least (Undecided hits) = ends.Undecided
end_at_least least (BadLine bad) = ends.BadInput
end_at_least least (BadTrace fault) = ends.BadInput

-- how it ends, by the outcome of showing
abbrev pub end_of_shown : Shown → JudgeEnd
end_of_shown showing.Whole = ends.Done
end_of_shown (showing.BadTrace fault) = ends.BadInput
end_of_shown (showing.TooLate position) = ends.BadInput

-- how it ends if not all was reported
abbrev pub end_of_fault : TellFault → JudgeEnd
end_of_fault OutOfMemory = ends.OutOfMemory
end_of_fault CountFull = ends.CountFull
end_of_fault ReadFault = ends.FileFault
end_of_fault WriteFault = ends.FileFault

-- the exit status
abbrev pub status_of : JudgeEnd → ℕ
status_of ends.Done = 0
status_of ends.Rejected = 1
status_of ends.BadInput = 2
status_of ends.TooFew = 2
status_of ends.OutOfMemory = 3
status_of ends.CountFull = 3
status_of ends.FileFault = 3
status_of ends.Undecided = 4

-- memory was refused, or a file failed
abbrev pub IsFault : JudgeEnd → Type 0
IsFault end = (end ≡ ends.OutOfMemory) ⊎ (end ≡ ends.FileFault)

-- it ends as the outcome of judging says, or a file that was wanted beside it was not written
abbrev pub IsSaved : ℕ → Outcome → JudgeEnd → Type 0
IsSaved least outcome end = (end ≡ end_at_least least outcome) ⊎ IsFault end

-- how it ends after an answer, if an accepted history has to have so many calls
abbrev pub IsEnded : ℕ → Result Outcome TellFault → JudgeEnd → Type 0
IsEnded least (Ok outcome) end = IsSaved least outcome end
IsEnded least (Err fault) end = end ≡ end_of_fault fault
