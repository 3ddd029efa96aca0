use Rattle.std.specs.Prelude.{◌==◌}
use Rattle.std.proofs.lemmas.List.Filters.{dedup_is}
use Rattle.history_picture.proofs.Scaling.{each_once}
use Rattle.history_picture.proofs.drawing.callers_of.Goals as goal

pub returns : goal.returns
returns c =
    each_once c.args.history.now c.args.shown.now c.in_ok-callers.callers.items c.sort_unstable.new.self.items c.dedup.new.self.items c.in_ok-callers.ensures
    c.sort_unstable.ensures.permutation c.sort_unstable.ensures.sorted (dedup_is (λ x y. x == y) _ _ c.dedup.ensures.filtered)
