use Rattle.std.proofs.Common.{None, ◌∙◌, ap, replicate, sym}
use Rattle.std.proofs.lemmas.List.{length-map, length-replicate}
use Rattle.recorded_lane.specs.Points.{noted_in}
use Rattle.shared_cache.proofs.Claiming.{claimed_none}
use Rattle.shared_cache.proofs.Ends.{slots_none}
use Rattle.shared_cache.proofs.lane_claims.LaneClaims.new.Goals as goal

pub invariant_of-result : goal.invariant_of-result
invariant_of-result c = rw c.in_ok-ends.ensures (record {
  many = length-replicate c.len.result None ∙ c.len.ensures.count;
  claimed = rw (slots_none c.args.recorded c.len.result c.len.ensures.count) (claimed_none _ _ (c.len.ensures.count ∙ sym (length-map c.args.recorded noted_in)));
})

pub returns-clause-fresh : goal.returns-clause-fresh
returns-clause-fresh c = rw c.in_ok-ends.ensures (slots_none c.args.recorded c.len.result c.len.ensures.count ∙ ap (λ n. replicate n None) (c.len.ensures.count ∙ sym (length-map c.args.recorded noted_in)))
