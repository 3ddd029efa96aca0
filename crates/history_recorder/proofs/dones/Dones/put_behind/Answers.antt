use Rattle.std.proofs.Common.{List, ℕ, [], ◌≡◌, ◌++◌, ap, refl, subst, ◌∙◌}
use Rattle.std.specs.Prelude.{OnOk}
use Rattle.trace_file.specs.declared.call.Call.{Call}
use Rattle.trace_file.specs.Ending.{each_ending}
use Rattle.certificate_checker.specs.declared.done.Done.{Done}
use Rattle.certificate_checker.specs.Lanes.{calls_of}
use Rattle.history_recorder.proofs.DonesIn.{calls_ended}
use Rattle.history_recorder.proofs.dones.Dones.put_behind.Goals as goal

pub returns-then-is_empty : goal.returns-then-is_empty
returns-then-is_empty c =
    let calls = c.self.inside.calls in
    let none : c.args.history.now ≡ [] = c.if-is_empty.ensures.0 refl in
    rw none (c.ending.ensures ∙ ap (λ (ends : List ℕ). each_ending calls ends) c.as_slice.ensures.value ∙ calls_ended calls c.self.inside.ends.items ∙ ap (λ (ds : List Done). calls_of ds) c.self.view_is)

pub returns : goal.returns
returns c =
    let calls = c.self.inside.calls in
    let same : each_ending calls c.as_slice-2.result.now ≡ calls_of c.args.self =
    ap (λ (ends : List ℕ). each_ending calls ends) c.as_slice-2.ensures.value ∙ calls_ended calls c.self.inside.ends.items ∙ ap (λ (ds : List Done). calls_of ds) c.self.view_is in
    subst (λ (cs : List Call). OnOk c.extend_ending.result (c.extend_ending.new.self ≡ c.args.history.now ++ cs)) same c.extend_ending.ensures.ok
