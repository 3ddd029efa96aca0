-- Zero has no bit.
use Rattle.rriparoo.proofs.BitLaws.{bits_of-zero}
use Rattle.rriparoo.proofs.hit_bits.HitBits.empty.Goals as goal

pub returns : goal.returns
returns c = bits_of-zero
