use Rattle.std.proofs.Common.{List, ap, filter, ◌∙◌}
use Rattle.std.specs.Prelude.{◌==◌, slice_get}
use Rattle.klog_index.specs.declared.entry.Entry.{Entry}
use Rattle.klog_index.specs.Entries.{is_of}
use Rattle.klog_index.proofs.public_laws.RowLaws.{filter-both}
use Rattle.klog_index.proofs.index.LogIndex.find.Goals as goal

pub loop-entry-init : goal.loop-entry-init
loop-entry-init c =
    let test = λ (e : Entry). e.tag == c.args.tag in
    ap (λ (es : List Entry). slice_get (filter test es) c.args.skip) c.entries_of-left.ensures
    ∙ ap (λ (es : List Entry). slice_get es c.args.skip) (filter-both (is_of c.args.set) test c.args.self.now.entries)
