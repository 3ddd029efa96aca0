use Rattle.std.proofs.Common.{◌==◌}
use Rattle.memcached_text.proofs.Lists.{place_is, length_is, same_byte}
use Rattle.memcached_text.proofs.words.before_space.Goals as goal

pub returns-then-text-at-eq32-clause-count : goal.returns-then-text-at-eq32-clause-count
returns-then-text-at-eq32-clause-count c = place_is (λ b. b == 32) c.args.text.now c.loop-at.at c.loop-at-test.true c.loop-at.invariant (same_byte _ 32 c.if-text-at-eq32.true)

pub returns-clause-count : goal.returns-clause-count
returns-clause-count c = length_is (λ b. b == 32) c.args.text.now c.loop-at.at c.loop-at-test.false c.loop-at.auto.at-end c.loop-at.invariant
