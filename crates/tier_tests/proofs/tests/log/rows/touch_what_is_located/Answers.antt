use Rattle.std.proofs.Common.{refl}
use Rattle.tier_tests.proofs.LogRowLaws.{looks_of}
use Rattle.tier_tests.proofs.tests.log.rows.touch_what_is_located.Goals as goal

pub returns-in-Hit-clause-looks : goal.returns-in-Hit-clause-looks
returns-in-Hit-clause-looks g c = looks_of c.touch.new.self c.in-Hit.ensures c.touch.ensures.touched c.touch.ensures.shape c.touch.ensures.spelled

pub returns-in-Expired-clause-looks : goal.returns-in-Expired-clause-looks
returns-in-Expired-clause-looks g c = looks_of c.args.log.now c.in-Expired.ensures refl refl (λ on h. h)

pub returns-in-Absent-clause-looks : goal.returns-in-Absent-clause-looks
returns-in-Absent-clause-looks g c = looks_of c.args.log.now c.in-Absent.ensures refl refl (λ on h. h)

pub returns-in-Fault-clause-looks : goal.returns-in-Fault-clause-looks
returns-in-Fault-clause-looks g c = looks_of c.args.log.now c.in-Fault.ensures refl refl (λ on h. h)

pub returns-in-Damaged-clause-looks : goal.returns-in-Damaged-clause-looks
returns-in-Damaged-clause-looks g c = looks_of c.args.log.now c.in-Damaged.ensures refl refl (λ on h. h)
