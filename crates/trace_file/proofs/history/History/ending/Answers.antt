use Rattle.std.proofs.Common.{rules, List, ap, sym, ◌∙◌, length, arith}
use Rattle.std.proofs.lemmas.List.{length-map}
use Rattle.trace_file.specs.declared.call.Call.{Call}
use Rattle.trace_file.specs.Ending.{each_ending}
use Rattle.trace_file.specs.Stored.{call_in}
use Rattle.trace_file.proofs.Extending.{ended_calls, stored_ended}
use Rattle.trace_file.proofs.history.History.ending.Goals as goal

pub invariant_of-result : goal.invariant_of-result
invariant_of-result c =
    let p = c.self.inside in
    let many = c.requires ∙ ap (λ (calls : List Call). length calls) (sym c.self.view_is) ∙ length-map p.entries.items (call_in p.store.items) in
    rw c.set_ends.ensures (stored_ended (length p.store.items) p.entries.items c.args.ends.now many (λ k. omega (arith, c.type_inv.ends k)) c.self.invariant)

pub returns : goal.returns
returns c =
    let p = c.self.inside in
    let many = c.requires ∙ ap (λ (calls : List Call). length calls) (sym c.self.view_is) ∙ length-map p.entries.items (call_in p.store.items) in
    rw c.set_ends.ensures (ended_calls p.store.items p.entries.items c.args.ends.now many ∙ ap (λ (calls : List Call). each_ending calls c.args.ends.now) c.self.view_is)
