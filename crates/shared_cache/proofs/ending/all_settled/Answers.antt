use Rattle.std.proofs.Common.{rules, ◌++◌, ◌∷◌, Err, Ok, map, sym, ap, ◌∙◌}
use Rattle.shared_cache.proofs.SideBySide.{few_done, never_strange, one_settled}
use Rattle.shared_cache.proofs.ending.all_settled.Goals as goal

pub overflow_cast-len : goal.overflow_cast-len
overflow_cast-len c =
    let few = few_done c.args.settled.items c.loop-of_lane.lanes.items c.loop-of_lane.left.items c.loop-of_lane.invariant in
    search rules

pub fault_of-requires : goal.fault_of-requires
fault_of-requires c = λ place is.
    never_strange c.args.settled.items c.loop-of_lane.lanes.items c.in-Some.of_lane c.pop_front.new.self.items place
    (ap (λ rs. map Ok c.loop-of_lane.lanes.items ++ rs) (sym c.in-Some.ensures.items) ∙ c.loop-of_lane.invariant) c.requires.none (c.in-Err.is ∙ ap Err is)

pub loop-of_lane-preserved : goal.loop-of_lane-preserved
loop-of_lane-preserved c =
    rw c.in-Ok-push.ensures.items (one_settled c.args.settled.items c.loop-of_lane.lanes.items c.in-Ok.dones c.pop_front.new.self.items
    (ap (λ rs. map Ok c.loop-of_lane.lanes.items ++ rs) (sym (c.in-Some.ensures.items ∙ ap (λ r. r ∷ c.pop_front.new.self.items) c.in-Ok.is)) ∙ c.loop-of_lane.invariant))
