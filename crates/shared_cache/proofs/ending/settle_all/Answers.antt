use Rattle.std.proofs.Common.{rules, get_or, ◌≡◌, ◌∙◌, sym, map, subst}
use Rattle.std.proofs.lemmas.Option.{get_or_from_slice_get}
use Rattle.recorded_lane.specs.Points.{noted_in}
use Rattle.shared_cache.specs.declared.lane_left.LaneLeft.{LaneLeft}
use Rattle.shared_cache.specs.Settled.{Settles}
use Rattle.shared_cache.proofs.SideBySide.{both_ok, settled_by}
use Rattle.shared_cache.proofs.ending.settle_all.Goals as goal

pub returns : goal.returns
returns g c = both_ok _ _ _ c.map_vec.result c.map_vec.ensures.len c.map_vec.ensures.each (λ settled len each. settled_by 0 c.args.lists.now c.args.left.items settled.items c.requires (search rules)
    (λ i l d low at.
    let one = (each i d low).1 in
    let same : one.job ≡ l = sym (one.job_is l) ∙ get_or_from_slice_get c.args.left.items i l l at in
    subst (λ (x : LaneLeft). Settles x.lane (map noted_in x.recorded) c.args.lists.now (get_or settled.items i d)) same one.call.met))
