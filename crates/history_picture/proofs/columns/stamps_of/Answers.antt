use Rattle.std.specs.Prelude.{◌==◌}
use Rattle.std.proofs.lemmas.List.Filters.{dedup_is}
use Rattle.history_picture.proofs.Scaling.{scaled}
use Rattle.history_picture.proofs.columns.stamps_of.Goals as goal

pub returns : goal.returns
returns c =
    scaled c.args.history.now c.args.shown.now c.in_ok-stamps.stamps.items c.sort_unstable.new.self.items c.dedup.new.self.items c.in_ok-stamps.ensures
    c.sort_unstable.ensures.permutation c.sort_unstable.ensures.sorted (dedup_is (λ x y. x == y) _ _ c.dedup.ensures.filtered)
