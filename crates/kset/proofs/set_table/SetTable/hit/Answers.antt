use Rattle.std.proofs.Common.{◌<◌, length, sym, ap, ◌∙◌, arith}
use Rattle.std.proofs.lemmas.List.{get_or_read}
use Rattle.entry_pool.specs.Struck.{struck_at}
use Rattle.kset.specs.Notes.{Notes, no_notes, with_hit}
use Rattle.kset.specs.Sets.{with_notes}
use Rattle.kset.proofs.TableLaws.{table-count, table-notes, table-noted}
use Rattle.kset.proofs.set_table.SetTable.hit.Goals as goal

pub index_mut-requires : goal.index_mut-requires
index_mut-requires c =
    let lt = c.requires.set in
    let count = table-count c.self.inside.writes c.self.inside.notes.items c.self.inside.strikes c.self.invariant c.args.self.now c.self.view_is in
    let same = c.self.invariant.same in
    omega (arith, lt, count, same)

pub returns : goal.returns
returns c =
    let lt = c.requires.set in
    let count = table-count c.self.inside.writes c.self.inside.notes.items c.self.inside.strikes c.self.invariant c.args.self.now c.self.view_is in
    let there : c.args.set < length c.self.inside.notes.items = omega (arith, lt, count) in
    let read = get_or_read c.self.inside.notes.items c.args.set c.index_mut.result.now there c.index_mut.ensures.value no_notes in
    table-noted c.self.inside.writes c.self.inside.notes.items c.self.inside.strikes c.self.invariant c.args.self.now c.self.view_is c.args.set c.hit.new.self
    ∙ ap (λ (n : Notes). with_notes c.args.self.now c.args.set (record n { strikes = struck_at c.self.inside.strikes c.args.set })) (c.hit.ensures ∙ ap (λ (n : Notes). with_hit n c.args.slot) read)
    ∙ ap (λ (n : Notes). with_notes c.args.self.now c.args.set (with_hit n c.args.slot)) (sym (table-notes c.self.inside.writes c.self.inside.notes.items c.self.inside.strikes c.self.invariant c.args.self.now c.self.view_is c.args.set))
