use Rattle.std.proofs.Common.{◌∙◌}
use Rattle.history_recorder.proofs.DonesIn.{as_many}
use Rattle.history_recorder.proofs.dones.Dones.len.Goals as goal

pub returns : goal.returns
returns c =
    let h = c.self.inside in
    c.len.ensures ∙ h.ends.ok.0 ∙ as_many h.calls h.ends.items c.args.self.now c.self.invariant c.self.view_is
