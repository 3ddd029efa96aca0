-- What was written, by the answer and the status.
use Rattle.std.proofs.Common.{subst}
use Rattle.figures.specs.declared.form.Form.{Form}
use Rattle.judge_run.specs.Runs.{CheckedOn}
use Rattle.judge_run.proofs.RunLaws.{checked}
use Rattle.judge_run.proofs.run.check_from.Goals as goal

pub returns : goal.returns
returns g c = λ other.
    let old = g.O.Write.contents c.args.out.now in
    let known = g.I.Read.remaining c.args.reader.now in
    let left = g.I.Read.remaining c.answer_check-answer.new.reader in
    let new = g.O.Write.contents c.answer_check-answer.new.writer in
    subst (λ (form : Form). CheckedOn form known left c.args.request.now.explain old new c.status.result) c.of-form.ensures
    (checked c.of-form.result known left old new c.args.request.now.explain c.settled-end.result c.status.result c.status.ensures other
    c.answer_check-answer.result c.answer_check-answer.ensures.ok c.settled-end.ensures)
