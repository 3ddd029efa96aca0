-- The text of a file, or of the standard input, was judged; or there is no verdict.
use Rattle.std.proofs.Common.{◌∙◌, Bool, ap, subst}
use Rattle.figures.specs.Figures.{form_of}
use Rattle.judge_run.specs.Ends.{status_of}
use Rattle.judge_run.specs.Runs.{IsHeaded, are_several}
use Rattle.judge_run.proofs.TurnLaws.{fault_status, input_judged, no_verdict}
use Rattle.judge_run.proofs.run.judge_file.Goals as goal

pub returns-in-Err : goal.returns-in-Err
returns-in-Err g c =
    no_verdict (form_of c.args.request.now.json) c.args.request.now.scope c.args.request.now.detail c.args.request.now.at_least (are_several c.args.request.now.others.items) c.args.file.now (g.I.Read.remaining c.args.stdin.now) (g.O.Write.contents c.args.out.now) (g.O.Write.contents c.write_heading.new.out) c.status.result
    (c.status.ensures ∙ ap status_of c.untold.ensures ∙ fault_status c.in-Err.fault)

pub returns-in-Err-draw : goal.returns-in-Err-draw
returns-in-Err-draw g c =
    no_verdict (form_of c.args.request.now.json) c.args.request.now.scope c.args.request.now.detail c.args.request.now.at_least (are_several c.args.request.now.others.items) c.args.file.now (g.I.Read.remaining c.args.stdin.now) (g.O.Write.contents c.args.out.now) (g.O.Write.contents c.write_heading.new.out) c.status-in-Err-draw.result
    (c.status-in-Err-draw.ensures ∙ ap status_of c.without_random.ensures)

pub returns-then-is_standard_input : goal.returns-then-is_standard_input
returns-then-is_standard_input g c =
    let old = g.O.Write.contents c.args.out.now in
    let begun = g.O.Write.contents c.write_heading.new.out in
    let head = subst (λ (headed : Bool). IsHeaded headed c.args.file.now old begun) c.is_headed.ensures c.in_default.ensures in
    input_judged (form_of c.args.request.now.json) c.args.request.now.scope c.args.request.now.detail c.args.request.now.at_least (are_several c.args.request.now.others.items) c.args.file.now (g.I.Read.remaining c.args.stdin.now) (g.I.Read.remaining c.judge_from.new.reader) old begun (g.O.Write.contents c.judge_from.new.out) c.judge_from.result
    (c.is_standard_input.ensures.0 c.if-is_standard_input.true)
    head
    c.judge_from.ensures
