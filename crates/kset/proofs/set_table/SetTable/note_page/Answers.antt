use Rattle.std.proofs.Common.{ap, ◌∙◌, arith}
use Rattle.std.specs.FinSet.{empty}
use Rattle.kset.specs.Notes.{Notes}
use Rattle.kset.specs.Sets.{with_notes}
use Rattle.kset.proofs.TableLaws.{table-count, table-with}
use Rattle.kset.proofs.set_table.SetTable.note_page.Goals as goal

pub clear-requires : goal.clear-requires
clear-requires c =
    let lt = c.requires in
    let count = table-count c.self.inside.writes c.self.inside.notes.items c.self.inside.strikes c.self.invariant c.args.self.now c.self.view_is in
    let same = c.self.invariant.same in
    omega (arith, lt, count, same)

pub index_mut-requires : goal.index_mut-requires
index_mut-requires c =
    let lt = c.requires in
    let count = table-count c.self.inside.writes c.self.inside.notes.items c.self.inside.strikes c.self.invariant c.args.self.now c.self.view_is in
    let same = c.self.invariant.same in
    omega (arith, lt, count, same)

pub returns : goal.returns
returns c =
    table-with c.self.inside.writes c.self.inside.notes.items c.self.inside.strikes c.self.invariant c.args.self.now c.self.view_is c.args.set c.of_page.result empty c.clear.new.self c.clear.ensures
    ∙ ap (λ (n : Notes). with_notes c.args.self.now c.args.set (record n { strikes = empty })) c.of_page.ensures
