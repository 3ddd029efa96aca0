-- Bytes of another length are not the value.
use Rattle.std.proofs.Common.{◌≡◌, ℕ, arith, ap, length, refl}
use Rattle.serve_load.specs.Objects.{word_of}
use Rattle.serve_load.proofs.Repeating.{length-repeated}
use Rattle.serve_load.proofs.right.is_value.Goals as goal

eight : (key number : ℕ) → length (word_of key number) ≡ 8
eight key number = refl

pub returns-then-bytes-load : goal.returns-then-bytes-load
returns-then-bytes-load c = (
  λ h. absurd cc,
  λ e.
      let same = ap length e in
      let long = length-repeated (word_of c.args.key c.args.number) c.args.load.now.value_bytes (eight c.args.key c.args.number) in
      absurd (omega (arith, same, long)),
)
