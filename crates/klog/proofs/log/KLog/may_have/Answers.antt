use Rattle.std.proofs.Common.{ap, ◌∙◌}
use Rattle.std.specs.Prelude.{is_some}
use Rattle.std.specs.List.{list_any}
use Rattle.klog_index.specs.Entries.{has_tag}
use Rattle.klog.specs.Log.{LogState}
use Rattle.klog.proofs.IndexLaws.{any-first}
use Rattle.klog.proofs.log.KLog.may_have.Goals as goal

pub returns : goal.returns
returns g c =
    let at = c.args.placed.now in
    c.is_some.ensures ∙ ap is_some c.find.ensures ∙ any-first (has_tag at.set at.tag) c.self.inside.index.entries
    ∙ ap (λ (k : LogState). list_any (has_tag at.set at.tag) k.entries) c.self.view_is
