use mathlib.Core.Path.{refl}
use Rattle.key_hash.specs.Hashing.{folded}
use Rattle.key_hash.proofs.key_hasher.fold.Goals as goal

pub returns : goal.returns
unfolding folded
returns c = refl
