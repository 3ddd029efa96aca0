-- The line that tells what was found for the history of a text.
use Rattle.std.specs.Prelude.{ℕ, List, ◌++◌, length, codes}
use Rattle.std.specs.Fmt.{decimal}
use Rattle.trace_file.specs.declared.call.Call.{Call}
use Rattle.certificate_checker.specs.declared.verdict.Verdict.TheVariants as verdicts
use Rattle.certificate_checker.specs.VerdictLine.{verdict_line}
use Rattle.certificate_finder.specs.declared.found.Found.{Found}
use Rattle.certificate_finder.specs.declared.found.Found.TheVariants.{Accepted, Rejected, Undecided}
use Rattle.judge_run.specs.declared.extent.Extent.{Extent}
use Rattle.judge_run.specs.Extents.{own_of, recorded_of}
use Rattle.judge_run.specs.FromStart.{start_lines, start_text}
use Rattle.judge_run.specs.Telling.{reason_text}

-- what is said of calls, which stand on these lines, with the line feed
abbrev pub verdict_text : List Call → List ℕ → Extent → Found → List ℕ
verdict_text calls lines extent (Accepted certificate) = verdict_line verdicts.Accepted (recorded_of extent (length calls)) ++ codes "\n"
verdict_text calls lines extent (Rejected witness) =
    codes "rejected " ++ (reason_text calls lines witness ++ (start_text (start_lines lines (own_of extent (length calls)) witness) ++ codes "\n"))
verdict_text calls lines extent (Undecided hits) = codes "undecided " ++ decimal (length hits.items) ++ codes " hits\n"
