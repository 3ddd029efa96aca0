-- The bit of the word is the one of the set.
use Rattle.std.proofs.Common.{◌∙◌, ap}
use Rattle.std.specs.FinSet.{contains}
use Rattle.rriparoo.proofs.BitLaws.{contains-at}
use Rattle.rriparoo.proofs.hit_bits.HitBits.has.Goals as goal

pub returns : goal.returns
returns c = contains-at _ _ c.requires ∙ ap (λ s. contains s c.args.place) c.self.view_is
