-- The lane after a put, or after the removal for one that was refused.
use Rattle.std.proofs.Common.{ℕ, List, ◌∙◌, subst}
use Rattle.service_lane.specs.Serving.{Serving, Removes}
use Rattle.service_lane.proofs.lane.ServiceLane.put_or_remove.Goals as goal

pub returns-in-Ok-clause-stored : goal.returns-in-Ok-clause-stored
returns-in-Ok-clause-stored g c = c.in-Ok.ensures.stored

pub returns-in-Ok-clause-large : goal.returns-in-Ok-clause-large
returns-in-Ok-clause-large g c = c.in-Ok.ensures.large

pub returns-in-Ok-clause-removed : goal.returns-in-Ok-clause-removed
returns-in-Ok-clause-removed g c = tt

pub returns-in-Err-clause-stored : goal.returns-in-Err-clause-stored
returns-in-Err-clause-stored g c = tt

pub returns-in-Err-clause-large : goal.returns-in-Err-clause-large
returns-in-Err-clause-large g c = c.in-Err.ensures.large

pub returns-in-Err-clause-removed : goal.returns-in-Err-clause-removed
returns-in-Err-clause-removed g c =
    let held = g.D.PageDevice.held in
    let new = c.remove_kept.new.self in
    subst (λ (s : Serving g.row.D.Denot). Removes held c.args.key s new) c.in-Err.ensures.refused
    (subst (λ (k : List ℕ). Removes held k c.put.new.self new) (c.bytes.ensures.bytes ∙ c.of-kept.ensures) c.remove_kept.ensures)

pub put-requires : goal.put-requires
put-requires g c = assumption

pub remove_kept-requires : goal.remove_kept-requires
remove_kept-requires g c = assumption
