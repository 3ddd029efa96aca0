-- Each row of none of the sets is weighed against the first so far.
use Rattle.std.proofs.Common.{◌≡◌, ◌∷◌, ◌++◌, [], List, true, false, sym, ap, subst, ◌∙◌}
use Rattle.std.proofs.lemmas.Iterator.Consumers.{YieldsList-end, YieldsList-from_first}
use Rattle.entry_pool.specs.declared.row.Row.{Row}
use Rattle.klog_index.specs.declared.entry.Entry.{Entry}
use Rattle.klog_index.specs.Entries.{Entries, is_of_any, without}
use Rattle.klog_index.specs.First.{FindsFirst}
use Rattle.klog_index.specs.Rows.{entries_of, entry_of}
use Rattle.klog_index.proofs.public_laws.RowLaws.{without-kept, without-gone, same-map}
use Rattle.klog_index.proofs.index.LogIndex.first_of.Goals as goal

pub loop-row-preserved-then-not-contains : goal.loop-row-preserved-then-not-contains
loop-row-preserved-then-not-contains c =
    let kind = is_of_any c.args.sets.now in
    let r = c.in-Some.row in
    let es = without kind (entries_of c.loop-row.yielded) in
    let is : kind (entry_of r.item) ≡ false = ap kind (sym c.entry_of-entry.ensures) ∙ sym c.contains.ensures.value ∙ c.if-not-contains.true in
    let more : es ++ c.entry_of-entry.result ∷ [] ≡ without kind (entries_of (c.loop-row.yielded ++ r ∷ [])) =
    ap (λ (e : Entry). es ++ e ∷ []) c.entry_of-entry.ensures ∙ sym (without-kept kind c.loop-row.yielded r is) in
    subst (λ (xs : List Entry). FindsFirst c.args.segment xs c.first_with-first.result) more (c.first_with-first.ensures es c.loop-row.invariant)

pub loop-row-preserved : goal.loop-row-preserved
loop-row-preserved c =
    let kind = is_of_any c.args.sets.now in
    let r = c.in-Some.row in
    let is : kind (entry_of r.item) ≡ true = ap kind (sym c.entry_of-entry.ensures) ∙ sym c.contains.ensures.value ∙ c.if-not-contains.false in
    subst (λ (xs : List Entry). FindsFirst c.args.segment xs c.loop-row.first) (sym (without-gone kind c.loop-row.yielded r is)) c.loop-row.invariant

pub returns : goal.returns
returns c =
    let rows = c.self.inside.pool.rows in
    let kind = is_of_any c.args.sets.now in
    let end = YieldsList-end (YieldsList-from_first (λ x. x) (λ rest. rest) rows cc) c.loop-row.yielded _ c.loop-row.yielded_by _ _ c.in-None.is c.next.ensures.steps in
    let all : c.loop-row.yielded ≡ rows = sym (same-map c.loop-row.yielded) ∙ end.0 in
    subst (λ (x : Entries). FindsFirst c.args.segment (without kind x.entries) c.loop-row.first) c.self.view_is
    (subst (λ (rs : List Row). FindsFirst c.args.segment (without kind (entries_of rs)) c.loop-row.first) all c.loop-row.invariant)
