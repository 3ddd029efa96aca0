use Rattle.std.proofs.Common.{Some, None, sym, ap, ◌∙◌}
use Rattle.std.specs.List.{last_or}
use Rattle.klog_index.specs.declared.entry.Entry.{Entry}
use Rattle.klog_index.specs.Entries.{Entries}
use Rattle.klog_index.proofs.public_laws.RowLaws.{last-entry, last-no-entry}
use Rattle.klog_index.proofs.index.LogIndex.oldest.Goals as goal

pub returns-in-None : goal.returns-in-None
returns-in-None c =
    sym (last-no-entry c.self.inside.pool.rows (sym c.oldest.ensures ∙ c.in-None.is)) ∙ ap (λ (x : Entries). last_or None x.entries) c.self.view_is

pub returns-in-Some : goal.returns-in-Some
returns-in-Some c =
    ap (λ (e : Entry). Some e) c.entry_of.ensures
    ∙ sym (last-entry c.in-Some.row c.self.inside.pool.rows (sym c.oldest.ensures ∙ c.in-Some.is))
    ∙ ap (λ (x : Entries). last_or None x.entries) c.self.view_is
