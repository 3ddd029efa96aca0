-- A row of the kind goes, and what is not of the kind stays after the mark.
use Rattle.std.proofs.Common.{◌<◌, length, sym, subst}
use Rattle.entry_pool.specs.Chains.{none}
use Rattle.entry_pool.specs.Rows.{Rows, rows_after}
use Rattle.klog_index.specs.Entries.{is_on}
use Rattle.klog_index.proofs.Dropping.{dropping-none, dropping-at, dropping-end}
use Rattle.klog_index.proofs.Walking.{IsWalked, walk-start, walk-drop, walk-end, drop-fewer, next-held, next-row}
use Rattle.klog_index.proofs.index.LogIndex.drop_page.Goals as goal

pub loop-row-init : goal.loop-row-init
loop-row-init c = (dropping-none (is_on c.args.segment c.args.page) c.args.self.now c.self.inside.pool c.self.view_is c.self.invariant, walk-start (is_on c.args.segment c.args.page) c.self.inside.pool.rows)

pub remove-requires : goal.remove-requires
remove-requires c = next-held c.loop-row.mark c.loop-row.self-inside.pool.rows c.in-Some.row c.in-Some.ensures.next

pub loop-row-smaller-then-lies_on : goal.loop-row-smaller-then-lies_on
loop-row-smaller-then-lies_on c =
    let pool = c.loop-row.self-inside.pool in
    subst (λ (x : Rows). length (rows_after c.loop-row.mark none x.rows) < length (rows_after c.loop-row.mark none pool.rows)) (sym c.remove.ensures)
    (drop-fewer pool.rows c.loop-row.mark c.in-Some.row c.in-Some.ensures.next c.in-Some.ensures.apart)

pub loop-row-preserved-then-lies_on : goal.loop-row-preserved-then-lies_on
loop-row-preserved-then-lies_on c =
    let kind = is_on c.args.segment c.args.page in
    let pool = c.loop-row.self-inside.pool in
    let next = c.in-Some.ensures.next in
    let row = next-row c.loop-row.mark none pool.rows (rows_after c.in-Some.row.at none pool.rows) c.in-Some.row next.0 in (
      dropping-at kind c.args.self.now pool c.remove.new.self c.in-Some.row c.loop-row.invariant.0 (sym c.if-lies_on.ensures) row c.in-Some.ensures.apart c.remove.ensures,
      subst (λ (x : Rows). IsWalked kind x.rows c.loop-row.mark) (sym c.remove.ensures) (walk-drop kind pool.rows c.loop-row.mark c.in-Some.row c.loop-row.invariant.1 next c.in-Some.ensures.apart),
    )

pub returns : goal.returns
returns c = dropping-end (is_on c.args.segment c.args.page) c.args.self.now c.loop-row.self-inside.pool c.loop-row.invariant.0 (sym (walk-end (is_on c.args.segment c.args.page) c.loop-row.self-inside.pool.rows c.loop-row.mark c.loop-row.invariant.1 c.in_default.ensures.next))
