-- File after file.
use Rattle.std.proofs.Common.{◌≡◌, ◌<◌, ℕ, List, length, subst}
use Rattle.std.proofs.Math.ListN.{get_or}
use Rattle.figures.specs.Figures.{form_of}
use Rattle.judge_run.specs.Runs.{are_several}
use Rattle.judge_run.proofs.TurnLaws.{first_turn, next_turn}
use Rattle.judge_run.proofs.run.judge_with.Goals as goal

pub loop-file-init : goal.loop-file-init
loop-file-init g c =
    first_turn (form_of c.args.request.now.json) c.args.request.now.scope c.args.request.now.detail c.args.request.now.at_least (are_several c.args.request.now.others.items) c.args.request.now.file c.judge_file-worst.result (g.I.Read.remaining c.args.stdin.now) (g.I.Read.remaining c.judge_file-worst.new.stdin) (g.O.Write.contents c.args.out.now) (g.O.Write.contents c.judge_file-worst.new.out) c.judge_file-worst.ensures

pub loop-file-preserved : goal.loop-file-preserved
loop-file-preserved g c =
    let others = c.args.request.now.others.items in
    let same : c.deref-file-items.result.now ≡ others = c.deref-file-items.ensures.value in
    let less : c.loop-file.file-index < length others = subst (λ (files : List (List ℕ)). c.loop-file.file-index < length files) same c.loop-file-test.true in
    let is : c.file-item.result ≡ get_or others c.loop-file.file-index c.file-item.result = subst (λ (files : List (List ℕ)). c.file-item.result ≡ get_or files c.loop-file.file-index c.file-item.result) same c.file-item.is in
    rw c.worse_of-worst.ensures (next_turn (form_of c.args.request.now.json) c.args.request.now.scope c.args.request.now.detail c.args.request.now.at_least (are_several c.args.request.now.others.items) c.args.request.now.file others c.loop-file.file-index c.file-item.result c.loop-file.worst c.judge_file-status.result
    (g.I.Read.remaining c.args.stdin.now) (g.I.Read.remaining c.loop-file.stdin) (g.I.Read.remaining c.judge_file-status.new.stdin) (g.O.Write.contents c.args.out.now) (g.O.Write.contents c.loop-file.out) (g.O.Write.contents c.judge_file-status.new.out) less is c.loop-file.invariant c.judge_file-status.ensures)
