-- The line of one position more.
use Rattle.std.proofs.Common.{◌∷◌, [], ◌++◌, ◌∙◌, List, ℕ, ap, append_assoc, arith, get_or, sym, take}
use Rattle.judge_run.specs.Telling.{lines_at}
use Rattle.judge_run.proofs.FoundLaws.{line_more}
use Rattle.judge_run.proofs.warming.with_lines.Goals as goal

pub loop-position-preserved : goal.loop-position-preserved
loop-position-preserved c =
    let lines = c.args.lines.now in
    let positions = c.args.positions.now in
    let i = c.loop-position.position-index in
    c.in-Ok.ensures
    ∙ ap (λ (front : List ℕ). front ++ lines_at lines (get_or positions i 0 ∷ [])) c.loop-position.invariant
    ∙ append_assoc lines (lines_at lines (take i positions)) (lines_at lines (get_or positions i 0 ∷ []))
    ∙ ap (λ (back : List ℕ). lines ++ back) (sym (line_more lines positions i (omega arith)))
