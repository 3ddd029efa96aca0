-- How a run ends: by what, its exit status, and what it writes to standard error.
use Rattle.std.specs.Prelude.{◌≡◌, ◌⊎◌, ℕ, ◌==◌, List, [], ◌++◌, Option, Some, None, codes, if◌then◌else◌}
use Rattle.std.specs.Option.{option_map_or}
use Rattle.certificate_checker.specs.declared.verdict.Verdict.{Verdict}
use Rattle.certificate_checker.specs.declared.verdict.Verdict.TheVariants as verdicts
use Rattle.shared_cache.specs.declared.finish_fault.FinishFault.{FinishFault}
use Rattle.shared_cache.specs.declared.finish_fault.FinishFault.TheVariants as faults
use Rattle.load_run.specs.declared.run_end.RunEnd.{RunEnd}
use Rattle.load_run.specs.declared.run_end.RunEnd.TheVariants as ends

-- a rejection outweighs callers that stopped
abbrev pub end_of_verdict : Verdict → ℕ → RunEnd
end_of_verdict (verdicts.Rejected fault) stopped = ends.Rejected
end_of_verdict verdicts.Accepted stopped = if stopped == 0 then ends.Accepted else ends.Stopped

-- how a run ends whose cache was not finished
abbrev pub end_of_finish : FinishFault → RunEnd
end_of_finish faults.OutOfMemory = ends.OutOfMemory
end_of_finish (faults.MissingPass caller) = ends.FinishFault
end_of_finish (faults.Strange caller call) = ends.FinishFault
end_of_finish (faults.LaneLost lane) = ends.FinishFault
end_of_finish (faults.Unlisted lane position) = ends.FinishFault

-- the exit status of an end
abbrev pub status_of : RunEnd → ℕ
status_of ends.Accepted = 0
status_of ends.Rejected = 1
status_of ends.SharesExceed = 2
status_of ends.Stopped = 3
status_of ends.OutOfMemory = 3
status_of ends.FileFault = 3
status_of ends.FinishFault = 3

-- the line that is written to standard error
abbrev pub message_of : RunEnd → Option (List ℕ)
message_of ends.Accepted = None
message_of ends.Rejected = None
message_of ends.Stopped = None
message_of ends.SharesExceed = Some (codes "gets and removes exceed 100")
message_of ends.OutOfMemory = Some (codes "out of memory")
message_of ends.FileFault = Some (codes "file fault")
message_of ends.FinishFault = Some (codes "finish fault")

-- the same with its line feed, and nothing if none is written
abbrev pub line_of : RunEnd → List ℕ
line_of end = option_map_or (λ message. message ++ codes "\n") (message_of end) []

-- a file was not opened, or memory was refused
abbrev pub IsUnopened : RunEnd → Type 0
IsUnopened end = (end ≡ ends.OutOfMemory) ⊎ (end ≡ ends.FileFault)

-- a cache was not opened or not finished
abbrev pub IsRefusal : RunEnd → Type 0
IsRefusal end = (end ≡ ends.OutOfMemory) ⊎ (end ≡ ends.FinishFault)
