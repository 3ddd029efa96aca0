use Rattle.std.proofs.Common.{◌<◌, length, sym, ap, ◌∙◌, arith}
use Rattle.std.proofs.lemmas.List.{get_or_read}
use Rattle.std.specs.FinSet.{contains}
use Rattle.kset.specs.Notes.{Notes, no_notes}
use Rattle.kset.proofs.TableLaws.{table-count, table-notes}
use Rattle.kset.proofs.set_table.SetTable.was_hit.Goals as goal

pub index-requires : goal.index-requires
index-requires c =
    let lt = c.requires.set in
    let count = table-count c.self.inside.writes c.self.inside.notes.items c.self.inside.strikes c.self.invariant c.args.self.now c.self.view_is in
    let same = c.self.invariant.same in
    omega (arith, lt, count, same)

pub returns : goal.returns
returns c =
    let lt = c.requires.set in
    let count = table-count c.self.inside.writes c.self.inside.notes.items c.self.inside.strikes c.self.invariant c.args.self.now c.self.view_is in
    let there : c.args.set < length c.self.inside.notes.items = omega (arith, lt, count) in
    let read = get_or_read c.self.inside.notes.items c.args.set c.index.result.now there c.index.ensures no_notes in
    c.was_hit.ensures ∙ ap (λ (n : Notes). contains n.hits c.args.slot) read ∙ sym (ap (λ (n : Notes). contains n.hits c.args.slot) (table-notes c.self.inside.writes c.self.inside.notes.items c.self.inside.strikes c.self.invariant c.args.self.now c.self.view_is c.args.set))
