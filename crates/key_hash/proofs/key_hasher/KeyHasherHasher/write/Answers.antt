use Rattle.std.specs.Prelude.{◌≡◌, ℕ, suc, ◌+◌, ◌-◌, ◌*◌, ◌/◌, length}
use mathlib.Core.Path.{refl}
use native.Mathlib.Omega.{arith}
use borrow.Author.Tests.{le-leb, lt-leb}
use Rattle.key_hash.specs.Hashing.{mixed_blocks, written}
use Rattle.key_hash.proofs.key_hasher.KeyHasherHasher.write.Goals as goal

pub returns-then-len-le8 : goal.returns-then-len-le8
unfolding written
returns-then-len-le8 c = rw (c.fold-self.ensures, c.short_word.ensures, le-leb (length c.args.bytes.now) 8 c.if-len-le8.true)

pub loop-at-init : goal.loop-at-init
unfolding mixed_blocks
loop-at-init c = (refl, omega arith, refl)

pub loop-at-preserved : goal.loop-at-preserved
unfolding mixed_blocks
loop-at-preserved c =
    let at : ℕ = c.loop-at.at in
    let whole : at ≡ 16 * (at / 16) = omega (arith, c.loop-at.invariant.0) in
    let more : (at + 16) / 16 ≡ suc (at / 16) = omega arith in (
      omega arith,
      omega arith,
      rw (more, c.fold-state-in-loop-at.ensures, c.word_at.ensures, c.word_at-in-loop-at.ensures, ← c.loop-at.invariant.2, ← whole),
    )

pub returns : goal.returns
unfolding written
returns c =
    let n : ℕ = length c.args.bytes.now in
    let count : (n - 1) / 16 ≡ c.loop-at.at / 16 = omega (arith, c.loop-at.invariant.0, c.loop-at.invariant.1, c.loop-at-test.false) in
    rw (lt-leb n 8 c.if-len-le8.false, count, ← c.fold-state.ensures, ← c.loop-at.invariant.2, c.fold-self-2.ensures, c.word_at-2.ensures, c.word_at-3.ensures, c.saturating_sub.ensures)
