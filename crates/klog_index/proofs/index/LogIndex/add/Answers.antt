use Rattle.std.proofs.Common.{sym, subst}
use Rattle.std.proofs.lemmas.List.Kept.{AllPairs-cons}
use Rattle.entry_pool.specs.declared.row.Row.{Row}
use Rattle.entry_pool.specs.Rows.{Rows}
use Rattle.klog_index.specs.Entries.{Entries, IsFree}
use Rattle.klog_index.specs.Rows.{RowsApart}
use Rattle.klog_index.proofs.public_laws.RowLaws.{LieApart, apart-free}
use Rattle.klog_index.proofs.index.LogIndex.add.Goals as goal

pub invariant_of-self : goal.invariant_of-self
invariant_of-self c =
    let rows = c.self.inside.pool.rows in
    let r : Row = record { at = c.push-number.result; item = record { set = c.args.set; tag = c.args.tag; segment = c.args.place.segment; page = c.args.place.page; slot = c.args.place.slot; prediction = c.args.prediction } } in
    let free = subst (λ (x : Entries). IsFree c.args.place x.entries) (sym c.self.view_is) c.requires.free in
    subst (λ (p : Rows). RowsApart p.rows) (sym c.push-number.ensures) (AllPairs-cons LieApart r rows (apart-free r rows free) c.self.invariant)
