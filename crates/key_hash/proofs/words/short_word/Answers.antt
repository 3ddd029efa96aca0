use Rattle.std.specs.Prelude.{length}
use borrow.Author.Tests.{le-leb, lt-leb, lt-ltb, le-ltb}
use Rattle.key_hash.specs.Words.{short}
use Rattle.key_hash.proofs.words.short_word.Goals as goal

pub returns-then-len-ge4 : goal.returns-then-len-ge4
unfolding short
returns-then-len-ge4 c = rw (c.half_at.ensures, c.half_at-then-len-ge4.ensures, le-leb 4 (length c.args.bytes.now) c.if-len-ge4.true)

pub returns-then-len-gt0 : goal.returns-then-len-gt0
unfolding short
returns-then-len-gt0 c = rw (lt-leb 4 (length c.args.bytes.now) c.if-len-ge4.false, lt-ltb 0 (length c.args.bytes.now) c.if-len-gt0.true)

pub returns-else-len-gt0 : goal.returns-else-len-gt0
unfolding short
returns-else-len-gt0 c = rw (lt-leb 4 (length c.args.bytes.now) c.if-len-ge4.false, le-ltb 0 (length c.args.bytes.now) c.if-len-gt0.false)
