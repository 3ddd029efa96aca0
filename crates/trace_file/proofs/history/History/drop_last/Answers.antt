-- The call that was the last, by its entry.
use Rattle.std.proofs.Common.{◌≡◌, ◌++◌, ◌∷◌, [], ap, ◌∙◌}
use Rattle.std.specs.Option.{option_to_list}
use Rattle.trace_file.proofs.DropLaws.{stored_after_drop, calls_after_drop}
use Rattle.trace_file.proofs.history.History.drop_last.Goals as goal

pub invariant_of-self : goal.invariant_of-self
invariant_of-self c =
    let h = c.self.inside in
    let front = c.pop.new.self.items in
    let were : h.entries.items ≡ front ++ c.in-Some.entry ∷ [] = c.pop.ensures.items ∙ ap (λ o. front ++ option_to_list o) c.in-Some.is in
    stored_after_drop h.store.items c.truncate.new.self.items h.entries.items front c.in-Some.entry c.self.invariant were c.truncate.ensures.items

pub returns-in-Some : goal.returns-in-Some
returns-in-Some c =
    let h = c.self.inside in
    let front = c.pop.new.self.items in
    let were : h.entries.items ≡ front ++ c.in-Some.entry ∷ [] = c.pop.ensures.items ∙ ap (λ o. front ++ option_to_list o) c.in-Some.is in
    calls_after_drop h.store.items c.truncate.new.self.items h.entries.items front c.in-Some.entry c.args.self.now c.self.invariant c.self.view_is were c.truncate.ensures.items
