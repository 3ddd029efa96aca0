-- The call with its point for its end, and its own end.
use Rattle.std.proofs.Common.{◌≡◌, [], ◌∷◌, ◌++◌, ap, ◌∙◌}
use Rattle.trace_file.specs.declared.call.Call.{Call}
use Rattle.trace_file.specs.Lent.{call_shown}
use Rattle.certificate_checker.specs.declared.done.Done.{Done}
use Rattle.history_recorder.specs.Done.{done_with}
use Rattle.history_recorder.proofs.dones.Dones.push.Goals as goal

pub returns-clause-ok : goal.returns-clause-ok
returns-clause-ok c =
    let done : done_with (call_shown c.new-at_point.result) c.lent-call.result.end ≡ c.args.done =
    ap (λ (call : Call). done_with call c.lent-call.result.end) c.new-at_point.ensures.call
    ∙ ap (λ (call : Call). record { call = call; point = c.args.done.point }) c.lent-call.ensures.call in
    c.in_ok-push_lent.ensures.ok ∙ ap (λ (d : Done). c.args.self.now ++ d ∷ []) done
