use Rattle.std.proofs.Common.{subst}
use Rattle.klog_index.specs.Entries.{Entries, AreApart}
use Rattle.klog_index.proofs.public_laws.RowLaws.{apart-entries}
use Rattle.klog_index.proofs.index.LogIndex.len.Goals as goal

pub returns-clause-apart : goal.returns-clause-apart
returns-clause-apart c =
    subst (λ (x : Entries). AreApart x.entries) c.self.view_is (apart-entries c.self.inside.pool.rows c.self.invariant)
