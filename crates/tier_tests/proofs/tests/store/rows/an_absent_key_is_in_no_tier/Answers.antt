-- What a lane has of a key that a get says is absent.
use Rattle.mover.specs.Lane.{lane_of}
use Rattle.tier_tests.proofs.AbsentRow.{ok_same, absent_is_nowhere}
use Rattle.tier_tests.proofs.tests.store.rows.an_absent_key_is_in_no_tier.Goals as goal

pub returns : goal.returns
returns g c is =
    let d = g.D.PageDevice in
    absent_is_nowhere c.args.key.now c.args.moment c.in_ok-answer.answer (lane_of d.held c.args.store.now) (lane_of d.held c.get.new.self) (c.in_ok-answer.ensures.gives c.requires.honest) (ok_same is)
