use Rattle.std.proofs.Common.{sym, ap, subst, ◌∙◌}
use Rattle.entry_pool.specs.Rows.{Rows, with_rows, with_prediction_at, IsHeld}
use Rattle.entry_pool.proofs.Sound.{below-ages}
use Rattle.entry_pool.proofs.Settled.{held-ages}
use Rattle.entry_pool.proofs.Marks.{repredicted-sound, repredicted-in}
use Rattle.entry_pool.proofs.pool.EntryPool.set_prediction.Goals as goal

pub set_prediction-requires : goal.set_prediction-requires
set_prediction-requires c =
    let l = c.self.inside.links in
    below-ages l c.self.invariant c.args.at (held-ages l c.args.at (subst (λ (r : Rows). IsHeld c.args.at r.rows) (sym c.self.view_is) c.requires))

pub invariant_of-self : goal.invariant_of-self
invariant_of-self c =
    repredicted-sound c.self.inside.links c.set_prediction.new.self c.args.at c.args.prediction c.self.invariant c.set_prediction.ensures.chains c.set_prediction.ensures.nodes c.set_prediction.ensures.heads c.set_prediction.ensures.count

pub returns : goal.returns
returns c =
    repredicted-in c.self.inside.links c.set_prediction.new.self c.args.at c.args.prediction c.self.invariant c.set_prediction.ensures.chains c.set_prediction.ensures.nodes c.set_prediction.ensures.heads c.set_prediction.ensures.count
    ∙ ap (λ (p : Rows). with_rows p (with_prediction_at c.args.at c.args.prediction p.rows)) c.self.view_is
