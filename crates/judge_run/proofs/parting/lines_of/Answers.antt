-- The line of one position more.
use Rattle.std.proofs.Common.{◌∷◌, [], ◌++◌, ◌∙◌, List, ℕ, ap, arith, get_or, sym, take}
use Rattle.judge_run.specs.Telling.{lines_at}
use Rattle.judge_run.proofs.FoundLaws.{line_more}
use Rattle.judge_run.proofs.parting.lines_of.Goals as goal

pub loop-position-preserved : goal.loop-position-preserved
loop-position-preserved c =
    let lines = c.args.lines.now in
    let positions = c.args.positions.now in
    let i = c.loop-position.position-index in
    c.in-Ok.ensures
    ∙ ap (λ (front : List ℕ). front ++ lines_at lines (get_or positions i 0 ∷ [])) c.loop-position.invariant
    ∙ sym (line_more lines positions i (omega arith))
