-- What is reported of a run that was judged.
use Rattle.std.specs.Prelude.{ℕ, Bool, true, false, List, ◌∷◌, ◌++◌, codes}
use Rattle.std.specs.Fmt.{decimal}
use Rattle.trace_file.specs.declared.act.Act.{Act}
use Rattle.trace_file.specs.declared.act.Act.TheVariants.{Put, Remove, Hit, Miss}
use Rattle.trace_file.specs.declared.call.Call.{Call}
use Rattle.certificate_checker.specs.VerdictLine.{verdict_line}
use Rattle.figures.specs.declared.form.Form.{Form}
use Rattle.figures.specs.declared.form.Form.TheVariants.{Lines, Json}
use Rattle.figures.specs.Figures.{Row, number, row, text_of_rows}
use Rattle.figures.specs.Verdicts.{verdict_rows}
use Rattle.load_run.specs.declared.summary.Summary.{Summary}

-- the act read a value
abbrev pub is_hit_act : Act → Bool
is_hit_act (Put value expires) = false
is_hit_act Remove = false
is_hit_act (Hit value moment) = true
is_hit_act Miss = false

-- the call read a value
abbrev pub is_hit : Call → Bool
is_hit call = is_hit_act call.act

-- the four lines, with this text of the verdict: the recorded calls, those of them that are hits, and the callers that stopped
abbrev pub lines_with : Summary → List ℕ → List ℕ
lines_with summary verdict =
    codes "calls " ++ (decimal summary.calls ++ (codes "\nhits " ++ (decimal summary.hits
    ++ (codes "\nstopped " ++ (decimal summary.stopped ++ (codes "\n" ++ (verdict ++ codes "\n")))))))

-- the four lines of a run
abbrev pub lines_of : Summary → List ℕ
lines_of summary = lines_with summary (verdict_line summary.verdict summary.calls)

-- the figures of a run
abbrev pub rows_of : Summary → List Row
rows_of summary =
    row (codes "calls") (number summary.calls) ∷ row (codes "hits") (number summary.hits)
    ∷ row (codes "stopped") (number summary.stopped) ∷ verdict_rows summary.verdict

-- what is reported of a run: its four lines, or a JSON object of its figures
abbrev pub text_of : Form → Summary → List ℕ
text_of Lines summary = lines_of summary
text_of Json summary = text_of_rows Json (rows_of summary)
