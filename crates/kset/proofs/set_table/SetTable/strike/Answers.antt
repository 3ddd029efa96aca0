-- A strike that the filter denies, one for which there is no room, and one for which there is.
use Rattle.std.proofs.Common.{◌≡◌, ◌<◌, length, true, false, ap, ◌∙◌, arith}
use Rattle.std.proofs.lemmas.List.{get_or_read}
use Rattle.bloom.specs.Filter.{admits}
use Rattle.set_hash.specs.Place.{probes_of}
use Rattle.entry_pool.specs.Struck.{struck_at, can_strike}
use Rattle.kset.specs.Notes.{Notes, no_notes}
use Rattle.kset.specs.Sets.{SetsState, has_place, forgotten}
use Rattle.kset.specs.Table.{table_of}
use Rattle.kset.proofs.TableLaws.{table-count, table-room, table-ample, strike-denied, strike-full, strike-added}
use Rattle.kset.proofs.set_table.SetTable.strike.Goals as goal

pub index-requires : goal.index-requires
index-requires c =
    let lt = c.requires.set in
    let count = table-count c.self.inside.writes c.self.inside.notes.items c.self.inside.strikes c.self.invariant c.args.self.now c.self.view_is in
    let same = c.self.invariant.same in
    omega (arith, lt, count, same)

pub returns-then-not-may_hold-clause-struck : goal.returns-then-not-may_hold-clause-struck
returns-then-not-may_hold-clause-struck c =
    let lt = c.requires.set in
    let count = table-count c.self.inside.writes c.self.inside.notes.items c.self.inside.strikes c.self.invariant c.args.self.now c.self.view_is in
    let there : c.args.placed.now.set < length c.self.inside.notes.items = omega (arith, lt, count) in
    let read = get_or_read c.self.inside.notes.items c.args.placed.now.set c.index.result.now there c.index.ensures no_notes in
    let asked = c.if-not-may_hold.ensures ∙ ap (λ (n : Notes). admits n.filter (probes_of c.args.placed.now.hash)) read in
    strike-denied c.self.inside.writes c.self.inside.notes.items c.self.inside.strikes c.self.invariant c.args.self.now c.self.view_is c.args.placed.now.set c.args.placed.now.hash (has_place c.args.self.now) asked

pub returns-then-not-may_hold-clause-ample : goal.returns-then-not-may_hold-clause-ample
returns-then-not-may_hold-clause-ample c =
    let lt = c.requires.set in
    let count = table-count c.self.inside.writes c.self.inside.notes.items c.self.inside.strikes c.self.invariant c.args.self.now c.self.view_is in
    let there : c.args.placed.now.set < length c.self.inside.notes.items = omega (arith, lt, count) in
    let read = get_or_read c.self.inside.notes.items c.args.placed.now.set c.index.result.now there c.index.ensures no_notes in
    let asked = c.if-not-may_hold.ensures ∙ ap (λ (n : Notes). admits n.filter (probes_of c.args.placed.now.hash)) read in
    λ ample. strike-denied c.self.inside.writes c.self.inside.notes.items c.self.inside.strikes c.self.invariant c.args.self.now c.self.view_is c.args.placed.now.set c.args.placed.now.hash true asked

pub add-requires : goal.add-requires
add-requires c =
    let lt = c.requires.set in
    let count = table-count c.self.inside.writes c.self.inside.notes.items c.self.inside.strikes c.self.invariant c.args.self.now c.self.view_is in
    let same = c.self.invariant.same in
    omega (arith, lt, count, same)

pub returns-then-not-add-clause-struck : goal.returns-then-not-add-clause-struck
returns-then-not-add-clause-struck c =
    let lt = c.requires.set in
    let count = table-count c.self.inside.writes c.self.inside.notes.items c.self.inside.strikes c.self.invariant c.args.self.now c.self.view_is in
    let there : c.args.placed.now.set < length c.self.inside.notes.items = omega (arith, lt, count) in
    let read = get_or_read c.self.inside.notes.items c.args.placed.now.set c.index.result.now there c.index.ensures no_notes in
    let asked = c.if-not-may_hold.ensures ∙ ap (λ (n : Notes). admits n.filter (probes_of c.args.placed.now.hash)) read in
    let kept : table_of c.self.inside.writes c.self.inside.notes.items c.add.new.self ≡ c.args.self.now =
    ap (table_of c.self.inside.writes c.self.inside.notes.items) c.if-not-add.ensures.full ∙ c.self.view_is in
    let none : false ≡ can_strike (has_place c.args.self.now) (struck_at c.self.inside.strikes c.args.placed.now.set) c.args.placed.now.hash =
    c.if-not-add.ensures.room ∙ ap (λ b. can_strike b (struck_at c.self.inside.strikes c.args.placed.now.set) c.args.placed.now.hash) (table-room c.self.inside.writes c.self.inside.notes.items c.self.inside.strikes c.self.invariant c.args.self.now c.self.view_is) in
    c.forget.ensures ∙ ap (λ (k : SetsState). forgotten k c.args.placed.now.set) kept ∙ strike-full c.self.inside.writes c.self.inside.notes.items c.self.inside.strikes c.self.invariant c.args.self.now c.self.view_is c.args.placed.now.set c.args.placed.now.hash (has_place c.args.self.now) asked none

pub returns-then-not-add-clause-ample : goal.returns-then-not-add-clause-ample
returns-then-not-add-clause-ample c =
    let lt = c.requires.set in
    let count = table-count c.self.inside.writes c.self.inside.notes.items c.self.inside.strikes c.self.invariant c.args.self.now c.self.view_is in
    let there : c.args.placed.now.set < length c.self.inside.notes.items = omega (arith, lt, count) in
    let read = get_or_read c.self.inside.notes.items c.args.placed.now.set c.index.result.now there c.index.ensures no_notes in
    let asked = c.if-not-may_hold.ensures ∙ ap (λ (n : Notes). admits n.filter (probes_of c.args.placed.now.hash)) read in
    let kept : table_of c.self.inside.writes c.self.inside.notes.items c.add.new.self ≡ c.args.self.now =
    ap (table_of c.self.inside.writes c.self.inside.notes.items) c.if-not-add.ensures.full ∙ c.self.view_is in
    λ ample. c.forget.ensures ∙ ap (λ (k : SetsState). forgotten k c.args.placed.now.set) kept
    ∙ strike-full c.self.inside.writes c.self.inside.notes.items c.self.inside.strikes c.self.invariant c.args.self.now c.self.view_is c.args.placed.now.set c.args.placed.now.hash true asked (c.if-not-add.ensures.ample (table-ample c.self.inside.writes c.self.inside.notes.items c.self.inside.strikes c.self.invariant c.args.self.now c.self.view_is ample))

pub returns-else-not-add-clause-struck : goal.returns-else-not-add-clause-struck
returns-else-not-add-clause-struck c =
    let lt = c.requires.set in
    let count = table-count c.self.inside.writes c.self.inside.notes.items c.self.inside.strikes c.self.invariant c.args.self.now c.self.view_is in
    let there : c.args.placed.now.set < length c.self.inside.notes.items = omega (arith, lt, count) in
    let read = get_or_read c.self.inside.notes.items c.args.placed.now.set c.index.result.now there c.index.ensures no_notes in
    let asked = c.if-not-may_hold.ensures ∙ ap (λ (n : Notes). admits n.filter (probes_of c.args.placed.now.hash)) read in
    let some : true ≡ can_strike (has_place c.args.self.now) (struck_at c.self.inside.strikes c.args.placed.now.set) c.args.placed.now.hash =
    c.if-not-add.ensures.room ∙ ap (λ b. can_strike b (struck_at c.self.inside.strikes c.args.placed.now.set) c.args.placed.now.hash) (table-room c.self.inside.writes c.self.inside.notes.items c.self.inside.strikes c.self.invariant c.args.self.now c.self.view_is) in
    strike-added c.self.inside.writes c.self.inside.notes.items c.self.inside.strikes c.self.invariant c.args.self.now c.self.view_is c.args.placed.now.set c.args.placed.now.hash (has_place c.args.self.now) asked some c.add.new.self (c.if-not-add.ensures.added)

pub returns-else-not-add-clause-ample : goal.returns-else-not-add-clause-ample
returns-else-not-add-clause-ample c =
    let lt = c.requires.set in
    let count = table-count c.self.inside.writes c.self.inside.notes.items c.self.inside.strikes c.self.invariant c.args.self.now c.self.view_is in
    let there : c.args.placed.now.set < length c.self.inside.notes.items = omega (arith, lt, count) in
    let read = get_or_read c.self.inside.notes.items c.args.placed.now.set c.index.result.now there c.index.ensures no_notes in
    let asked = c.if-not-may_hold.ensures ∙ ap (λ (n : Notes). admits n.filter (probes_of c.args.placed.now.hash)) read in
    λ ample. strike-added c.self.inside.writes c.self.inside.notes.items c.self.inside.strikes c.self.invariant c.args.self.now c.self.view_is c.args.placed.now.set c.args.placed.now.hash true asked (c.if-not-add.ensures.ample (table-ample c.self.inside.writes c.self.inside.notes.items c.self.inside.strikes c.self.invariant c.args.self.now c.self.view_is ample)) c.add.new.self (c.if-not-add.ensures.added)
