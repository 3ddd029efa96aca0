use Rattle.std.proofs.Common.{◌≡◌, ℕ, true, refl}
use Rattle.memcached_text.specs.Steps.{is_end}
use Rattle.memcached_text.proofs.Lists.{place_found, no_place}
use Rattle.memcached_text.proofs.request_reader.end_at.Goals as goal
use Rattle.memcached_text.proofs.request_reader.end_at.Goals.{then-bytes-at-eq32-via-then-bytes-at-eq32, then-bytes-at-eq32-via-else-bytes-at-eq32+then-bytes-at-eq10}

space_ends : (b : ℕ) → b ≡ 32 → is_end b ≡ true
space_ends b is = rw is refl

feed_ends : (b : ℕ) → b ≡ 10 → is_end b ≡ true
feed_ends b is = rw is refl

pub returns-then-bytes-at-eq32-clause-place : goal.returns-then-bytes-at-eq32-clause-place
returns-then-bytes-at-eq32-clause-place c =
    place_found is_end c.args.bytes.now 0 c.loop-at.at c.loop-at-test.true c.loop-at.invariant
    (elim c.then-bytes-at-eq32.branch [ then-bytes-at-eq32-via-then-bytes-at-eq32 w ↦ space_ends _ w.if-bytes-at-eq32.true | then-bytes-at-eq32-via-else-bytes-at-eq32+then-bytes-at-eq10 w ↦ feed_ends _ w.if-bytes-at-eq10.true ])

pub returns-clause-place : goal.returns-clause-place
returns-clause-place c = no_place is_end c.args.bytes.now 0 c.loop-at.at c.loop-at-test.false c.loop-at.auto.at-end c.loop-at.invariant
