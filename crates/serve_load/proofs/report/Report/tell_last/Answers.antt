use Rattle.std.proofs.lemmas.Result.{on_ok_weaker}
use Rattle.serve_load.proofs.Rows.{fourth}
use Rattle.serve_load.proofs.report.Report.tell_last.Goals as goal

pub returns : goal.returns
returns c =
    on_ok_weaker c.tell-4.result (λ e. fourth _ _ _ _ _ _ _ _ _ _ c.in_ok-tell.ensures c.in_ok-tell-2.ensures c.in_ok-tell-3.ensures e) c.tell-4.ensures
