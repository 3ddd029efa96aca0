use Rattle.std.proofs.Common.{◌<◌, length, ap, ◌∙◌, arith}
use Rattle.std.proofs.lemmas.List.{get_or_read}
use Rattle.bloom.specs.Filter.{admits}
use Rattle.set_hash.specs.Place.{probes_of}
use Rattle.kset.specs.Notes.{Notes, no_notes}
use Rattle.kset.proofs.TableLaws.{table-count, shows-denied, shows-unstruck}
use Rattle.kset.proofs.set_table.SetTable.lets_show.Goals as goal

pub index-requires : goal.index-requires
index-requires c =
    let lt = c.requires.set in
    let count = table-count c.self.inside.writes c.self.inside.notes.items c.self.inside.strikes c.self.invariant c.args.self.now c.self.view_is in
    let same = c.self.invariant.same in
    omega (arith, lt, count, same)

pub returns-then-not-may_hold : goal.returns-then-not-may_hold
returns-then-not-may_hold c =
    let lt = c.requires.set in
    let count = table-count c.self.inside.writes c.self.inside.notes.items c.self.inside.strikes c.self.invariant c.args.self.now c.self.view_is in
    let there : c.args.set < length c.self.inside.notes.items = omega (arith, lt, count) in
    let read = get_or_read c.self.inside.notes.items c.args.set c.index.result.now there c.index.ensures no_notes in
    shows-denied c.self.inside.writes c.self.inside.notes.items c.self.inside.strikes c.self.invariant c.args.self.now c.self.view_is c.args.set c.args.placed.now.hash (c.if-not-may_hold.ensures ∙ ap (λ (n : Notes). admits n.filter (probes_of c.args.placed.now.hash)) read)

pub has-requires : goal.has-requires
has-requires c =
    let lt = c.requires.set in
    let count = table-count c.self.inside.writes c.self.inside.notes.items c.self.inside.strikes c.self.invariant c.args.self.now c.self.view_is in
    let same = c.self.invariant.same in
    omega (arith, lt, count, same)

pub returns : goal.returns
returns c =
    let lt = c.requires.set in
    let count = table-count c.self.inside.writes c.self.inside.notes.items c.self.inside.strikes c.self.invariant c.args.self.now c.self.view_is in
    let there : c.args.set < length c.self.inside.notes.items = omega (arith, lt, count) in
    let read = get_or_read c.self.inside.notes.items c.args.set c.index.result.now there c.index.ensures no_notes in
    shows-unstruck c.self.inside.writes c.self.inside.notes.items c.self.inside.strikes c.self.invariant c.args.self.now c.self.view_is c.args.set c.args.placed.now.hash c.has.result (c.if-not-may_hold.ensures ∙ ap (λ (n : Notes). admits n.filter (probes_of c.args.placed.now.hash)) read) c.has.ensures
