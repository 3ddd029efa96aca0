-- The place joins the set.
use Rattle.std.proofs.Common.{◌∙◌, ap}
use Rattle.std.specs.FinSet.{insert}
use Rattle.rriparoo.proofs.BitLaws.{bits_of-set}
use Rattle.rriparoo.proofs.hit_bits.HitBits.set.Goals as goal

pub returns : goal.returns
returns c = bits_of-set _ _ c.requires ∙ ap (λ s. insert s c.args.place) c.self.view_is
