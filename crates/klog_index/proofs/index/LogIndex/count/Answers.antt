use Rattle.std.proofs.Common.{◌≡◌, ◌≤◌, List, length, inl, ap, ◌∙◌, arith}
use Rattle.std.proofs.lemmas.Iterator.Consumers.{count_from_yields_List, YieldsList-from_first}
use Rattle.std.proofs.lemmas.List.Sums.{length-filter}
use Rattle.klog_index.specs.declared.entry.Entry.{Entry}
use Rattle.klog_index.specs.Entries.{of_set, is_of}
use Rattle.klog_index.proofs.public_laws.RowLaws.{length-kept}
use Rattle.klog_index.proofs.index.LogIndex.count.Goals as goal

pub count-requires-clause-fits : goal.count-requires-clause-fits
count-requires-clause-fits c =
    let few : length (of_set c.args.set c.args.self.now.entries) ≤ length c.args.self.now.entries = length-kept (is_of c.args.set) c.args.self.now.entries in
    let is : length c.entries_of.result ≡ length (of_set c.args.set c.args.self.now.entries) = ap (λ (es : List Entry). length es) c.entries_of.ensures in
    inl (omega (arith, few, is, c.len-count.ensures.len))

pub returns : goal.returns
returns c =
    count_from_yields_List _ c.count.result c.count.ensures.ran (YieldsList-from_first (λ x. x) (λ rest. rest) (of_set c.args.set c.args.self.now.entries) cc)
    ∙ length-filter (is_of c.args.set) c.args.self.now.entries
