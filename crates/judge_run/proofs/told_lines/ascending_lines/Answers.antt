use Rattle.std.proofs.Common.{◌∷◌, [], get_or, fold, ap, sym, ◌∙◌, arith}
use Rattle.judge_run.specs.Telling.{lines_at, put_in}
use Rattle.judge_run.proofs.FoundLaws.{one}
use Rattle.judge_run.proofs.told_lines.ascending_lines.Goals as goal

pub loop-position-preserved : goal.loop-position-preserved
loop-position-preserved c =
    let positions = c.args.positions.now in
    let i = c.loop-position.position-index in
    c.in-Ok.ensures
    ∙ ap (λ told. fold put_in told (lines_at c.args.lines.now (get_or positions i 0 ∷ []))) c.loop-position.invariant
    ∙ sym (one c.args.lines.now positions i (omega arith))
