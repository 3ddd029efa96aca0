use Rattle.std.proofs.Common.{rules, ◌≡◌, ℕ, length, List, replicate, ap, ◌∙◌, arith}
use Rattle.std.proofs.lemmas.List.{length-replicate}
use Rattle.std.specs.Ordering.{nat_cmp}
use Rattle.std.specs.FinSet.{empty}
use Rattle.entry_pool.specs.Struck.{Struck}
use Rattle.kset.specs.Notes.{Notes, no_notes}
use Rattle.kset.specs.Table.{table_of}
use Rattle.kset.proofs.TableLaws.{none-struck}
use Rattle.kset.proofs.set_table.SetTable.open.Goals as goal

pub invariant_of-result : goal.invariant_of-result
invariant_of-result c =
    let noted : length c.loop.notes.items ≡ c.loop.counter = ap length c.loop.invariant ∙ length-replicate c.loop.counter no_notes in
    let struck : length c.in_ok-strikes.strikes.sets ≡ c.args.sets =
    ap (λ (s : Struck). length s.sets) c.in_ok-strikes.ensures ∙ length-replicate c.args.sets (empty {R = nat_cmp}) in
    let most = c.requires.sets in
    let all : c.loop.counter ≡ c.args.sets = search rules in
    record { few = omega (arith, noted, most, all); same = omega (arith, struck, noted, all) }

pub returns : goal.returns
unfolding table_of
returns c =
    let all : c.loop.counter ≡ c.args.sets = search rules in
    let noted : c.loop.notes.items ≡ replicate c.args.sets no_notes = c.loop.invariant ∙ ap (λ (n : ℕ). replicate n no_notes) all in
    ap (λ (ns : List Notes). table_of 0 ns c.in_ok-strikes.strikes) noted
    ∙ ap (table_of 0 (replicate c.args.sets no_notes)) c.in_ok-strikes.ensures
    ∙ (λ i. record { writes = 0; places = c.args.strikes; notes = none-struck c.args.sets i })
