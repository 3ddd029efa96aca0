use Rattle.std.proofs.Common.{rules, List, ◌≡◌, ◌++◌, ap, length, arith, sym, ◌∙◌}
use Rattle.std.proofs.lemmas.List.{length-map}
use Rattle.trace_file.specs.declared.call.Call.{Call}
use Rattle.trace_file.specs.Stored.{call_in}
use Rattle.trace_file.proofs.Extending.{calls_behind, stored_behind}
use Rattle.trace_file.proofs.history.History.extend_ending.Goals as goal

pub invariant_of-self-2 : goal.invariant_of-self-2
invariant_of-self-2 c =
    let old = c.self.inside in
    let other = c.calls.inside in
    let many = c.requires ∙ ap (λ (calls : List Call). length calls) (sym c.calls.view_is) ∙ length-map other.entries.items (call_in other.store.items) in
    let items : c.extend_from_slice.new.self.items ≡ old.store.items ++ other.store.items = search rules in
    rw (c.push_moved.ensures, items, c.reserve.ensures.items, c.as_slice-2.ensures.value)
    (stored_behind old.store.items other.store.items c.len-offset.result old.entries.items other.entries.items c.args.ends.now (search rules) many (λ k. omega (arith, c.type_inv.ends k)) c.self.invariant c.calls.invariant)

pub returns-clause-ok : goal.returns-clause-ok
returns-clause-ok c =
    let old = c.self.inside in
    let other = c.calls.inside in
    let many = c.requires ∙ ap (λ (calls : List Call). length calls) (sym c.calls.view_is) ∙ length-map other.entries.items (call_in other.store.items) in
    let items : c.extend_from_slice.new.self.items ≡ old.store.items ++ other.store.items = search rules in
    rw (c.push_moved.ensures, items, c.reserve.ensures.items, c.as_slice-2.ensures.value)
    (calls_behind old.store.items other.store.items c.len-offset.result old.entries.items other.entries.items c.args.ends.now (search rules) many (λ k. omega (arith, c.type_inv.ends k)) c.self.invariant c.calls.invariant c.args.self.now c.args.calls.now c.self.view_is c.calls.view_is)
