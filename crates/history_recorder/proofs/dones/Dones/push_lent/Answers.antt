-- One call more, with its end.
use Rattle.std.proofs.Common.{◌≡◌, List, [], ◌∷◌, ◌++◌, ap, ◌∙◌, rules}
use Rattle.trace_file.specs.declared.call.Call.{Call}
use Rattle.trace_file.specs.Lent.{call_shown}
use Rattle.certificate_checker.specs.declared.done.Done.{Done}
use Rattle.history_recorder.specs.Done.{done_with, dones_in}
use Rattle.history_recorder.proofs.DonesIn.{one_more}
use Rattle.history_recorder.proofs.dones.Dones.push_lent.Goals as goal

pub returns-clause-ok : goal.returns-clause-ok
returns-clause-ok c =
    let h = c.self.inside in
    let call = call_shown c.args.at_point.now in
    let ends : c.push.new.self.items ≡ h.ends.items ++ c.args.end ∷ [] = search rules in
    ap (λ (cs : List Call). dones_in cs c.push.new.self.items) c.in_ok-push_ref.ensures.ok
    ∙ ap (dones_in (h.calls ++ call ∷ [])) ends
    ∙ one_more h.calls h.ends.items call c.args.end c.self.invariant
    ∙ ap (λ (ds : List Done). ds ++ done_with call c.args.end ∷ []) c.self.view_is
