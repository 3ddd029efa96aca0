use Rattle.std.proofs.Common.{rules, ◌∙◌, subst}
use Rattle.shared_cache.specs.Settled.{AreOwnOf, IsUnlistedIn, all_in}
use Rattle.shared_cache.proofs.LaneSettling.{all_listed, first_unlisted, made_none}
use Rattle.shared_cache.proofs.settling.settle.Goals as goal

pub claim_listed-requires : goal.claim_listed-requires
claim_listed-requires c = made_none c.args.left.lane c.in-Ok.claims c.in-Ok.ensures.fresh

pub returns-in-Ok-close : goal.returns-in-Ok-close
returns-in-Ok-close c =
    let told = c.in_default-claim_listed.ensures in
    let closed = c.in-Ok-close.ensures in
    let recorded = told.calls ∙ c.in-Ok.ensures.calls in
    record {
      same = closed.calls ∙ recorded;
      ended = closed.ended;
      own = subst (λ r. AreOwnOf c.args.left.lane r (all_in c.args.lists.now)) recorded told.made.own;
      weighed = λ h. closed.weighed h ∙ told.made.weighed h;
      listed = λ position low. all_listed c.args.left.lane c.claim_listed.new.claims (all_in c.args.lists.now) told.made closed.taken position (rw recorded low);
    }

pub returns-in-Err-Unclaimed : goal.returns-in-Err-Unclaimed
returns-in-Err-Unclaimed c =
    let told = c.in_default-claim_listed.ensures in
    let recorded = told.calls ∙ c.in-Ok.ensures.calls in
    subst (λ r. IsUnlistedIn c.args.left.lane r (all_in c.args.lists.now) c.in-Err-Unclaimed.position) recorded (first_unlisted c.args.left.lane c.claim_listed.new.claims (all_in c.args.lists.now) c.in-Err-Unclaimed.position told.made (search rules))
