-- The rows of a reason.
use Rattle.std.specs.Prelude.{ℕ, List, ◌∷◌, codes}
use Rattle.trace_file.specs.declared.call.Call.{Call}
use Rattle.certificate_finder.specs.declared.witness.Witness.{Witness}
use Rattle.figures.specs.Figures.{Row, numbers, row, word}
use Rattle.history_text.specs.Coding.{word_of}
use Rattle.judge_run.specs.FromStart.{start_lines, start_rows}
use Rattle.judge_run.specs.Telling.{ascending, first_position, key_at, lines_at, witness_positions, witness_word}

-- what a reason speaks of, if so many calls were recorded: its kind, its key, and the lines of its calls; and those of the hits that read first what was there from the start
abbrev pub reason_rows : List Call → List ℕ → ℕ → Witness → List Row
reason_rows calls lines recorded witness =
    row (codes "kind") (word (witness_word witness))
    ∷ row (codes "key") (word (word_of (key_at calls (first_position witness))))
    ∷ row (codes "lines") (numbers (ascending (lines_at lines (witness_positions witness))))
    ∷ start_rows (start_lines lines recorded witness)
