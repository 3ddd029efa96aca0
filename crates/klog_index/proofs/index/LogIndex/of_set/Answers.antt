use Rattle.std.proofs.Common.{sym, ◌∙◌}
use Rattle.std.proofs.lemmas.Iterator.Consumers.{nth_from_yields_List, YieldsList-from_first}
use Rattle.klog_index.specs.Entries.{of_set}
use Rattle.klog_index.proofs.public_laws.RowLaws.{same-option}
use Rattle.klog_index.proofs.index.LogIndex.of_set.Goals as goal

pub returns : goal.returns
returns c =
    sym (same-option c.nth.result)
    ∙ nth_from_yields_List c.nth.result _ c.args.skip c.nth.ensures.ran (YieldsList-from_first (λ x. x) (λ rest. rest) (of_set c.args.set c.args.self.now.entries) cc)
