use Rattle.memcached_text.specs.Steps.{is_feed}
use Rattle.memcached_text.proofs.Lists.{place_found, no_place, same_byte}
use Rattle.memcached_text.proofs.request_reader.feed_at.Goals as goal

pub returns-then-bytes-at-eq10-clause-place : goal.returns-then-bytes-at-eq10-clause-place
returns-then-bytes-at-eq10-clause-place c = place_found is_feed c.args.bytes.now 0 c.loop-at.at c.loop-at-test.true c.loop-at.invariant (same_byte _ 10 c.if-bytes-at-eq10.true)

pub returns-clause-place : goal.returns-clause-place
returns-clause-place c = no_place is_feed c.args.bytes.now 0 c.loop-at.at c.loop-at-test.false c.loop-at.auto.at-end c.loop-at.invariant
