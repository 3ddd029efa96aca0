-- A row of the set that passes goes, and what does not stays after the mark.
use Rattle.std.proofs.Common.{◌≡◌, ◌<◌, ℕ, Some, true, false, eqb, length, sym, ap, subst, ◌∙◌}
use Rattle.std.proofs.lemmas.Bool.{and_from, eq-eqb}
use Rattle.entry_pool.specs.Chains.{none}
use Rattle.entry_pool.specs.Rows.{Rows, in_set, rows_after, IsMark, IsNext}
use Rattle.klog_index.specs.Entries.{passes_of}
use Rattle.klog_index.specs.Rows.{entry_of}
use Rattle.klog_index.proofs.Dropping.{dropping-none, dropping-at, dropping-end}
use Rattle.klog_index.proofs.Walking.{IsWalked, walk-start, walk-on, set-drop, set-fewer, set-end, next-row, next-set, row-of-set}
use Rattle.klog_index.proofs.index.LogIndex.drop_passing.Goals as goal

pub loop-row-init : goal.loop-row-init
loop-row-init g c = (
  dropping-none (passes_of c.args.set (g.T.EntryTest.passing c.args.test.now)) c.args.self.now c.self.inside.pool c.self.view_is c.self.invariant,
  walk-start (g.T.EntryTest.passing c.args.test.now) (in_set c.args.set c.self.inside.pool.rows),
)

pub row_behind_in-requires : goal.row_behind_in-requires
row_behind_in-requires g c = c.loop-row.invariant.1.mark_is

pub remove_next-requires-clause-mark : goal.remove_next-requires-clause-mark
remove_next-requires-clause-mark g c =
    let rows = c.loop-row.self-inside.pool.rows in
    let own : c.in-Some.row.item.set ≡ c.args.set = next-set c.loop-row.mark none c.args.set rows (rows_after c.in-Some.row.at none (in_set c.args.set rows)) c.in-Some.row c.in-Some.ensures.next.0 in
    subst (λ (s : ℕ). IsMark c.loop-row.mark (in_set s rows)) (sym own) c.loop-row.invariant.1.mark_is

pub remove_next-requires-clause-next : goal.remove_next-requires-clause-next
remove_next-requires-clause-next g c =
    let rows = c.loop-row.self-inside.pool.rows in
    let own : c.in-Some.row.item.set ≡ c.args.set = next-set c.loop-row.mark none c.args.set rows (rows_after c.in-Some.row.at none (in_set c.args.set rows)) c.in-Some.row c.in-Some.ensures.next.0 in
    subst (λ (s : ℕ). IsNext c.loop-row.mark (in_set s rows) (Some c.in-Some.row)) (sym own) c.in-Some.ensures.next

pub loop-row-smaller-then-passes : goal.loop-row-smaller-then-passes
loop-row-smaller-then-passes g c =
    let rows = c.loop-row.self-inside.pool.rows in
    subst (λ (x : Rows). length (rows_after c.loop-row.mark none (in_set c.args.set x.rows)) < length (rows_after c.loop-row.mark none (in_set c.args.set rows))) (sym c.remove_next.ensures)
    (set-fewer c.args.set rows c.loop-row.mark c.in-Some.row c.in-Some.ensures.next c.in-Some.ensures.apart)

pub loop-row-preserved-then-passes : goal.loop-row-preserved-then-passes
loop-row-preserved-then-passes g c =
    let test = g.T.EntryTest.passing c.args.test.now in
    let pool = c.loop-row.self-inside.pool in
    let next = c.in-Some.ensures.next in
    let own : c.in-Some.row.item.set ≡ c.args.set = next-set c.loop-row.mark none c.args.set pool.rows (rows_after c.in-Some.row.at none (in_set c.args.set pool.rows)) c.in-Some.row next.0 in
    let row = row-of-set (λ r. eqb r.item.set c.args.set) c.in-Some.row pool.rows (next-row c.loop-row.mark none (in_set c.args.set pool.rows) (rows_after c.in-Some.row.at none (in_set c.args.set pool.rows)) c.in-Some.row next.0) in
    let its : test (entry_of c.in-Some.row.item) ≡ true = ap test (sym c.entry_of.ensures) ∙ sym c.if-passes.ensures in (
      dropping-at (passes_of c.args.set test) c.args.self.now pool c.remove_next.new.self c.in-Some.row c.loop-row.invariant.0 (and_from (eqb c.in-Some.row.item.set c.args.set) (test (entry_of c.in-Some.row.item)) (eq-eqb c.in-Some.row.item.set c.args.set own) its) row c.in-Some.ensures.apart c.remove_next.ensures,
      subst (λ (x : Rows). IsWalked test (in_set c.args.set x.rows) c.loop-row.mark) (sym c.remove_next.ensures) (set-drop c.args.set test pool.rows c.loop-row.mark c.in-Some.row c.loop-row.invariant.1 next c.in-Some.ensures.apart),
    )

pub loop-row-preserved : goal.loop-row-preserved
loop-row-preserved g c =
    let test = g.T.EntryTest.passing c.args.test.now in
    let not_its : test (entry_of c.in-Some.row.item) ≡ false = ap test (sym c.entry_of.ensures) ∙ sym c.if-passes.ensures in
    (c.loop-row.invariant.0, walk-on test (in_set c.args.set c.loop-row.self-inside.pool.rows) c.loop-row.mark c.in-Some.row c.loop-row.invariant.1 c.in-Some.ensures.next not_its)

pub returns : goal.returns
returns g c =
    let test = g.T.EntryTest.passing c.args.test.now in
    let pool = c.loop-row.self-inside.pool in
    dropping-end (passes_of c.args.set test) c.args.self.now pool c.loop-row.invariant.0 (sym (set-end c.args.set test pool.rows c.loop-row.mark c.loop-row.invariant.1 c.in_default.ensures.next))
