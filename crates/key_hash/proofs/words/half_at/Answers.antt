use Rattle.key_hash.specs.Words.{half}
use Rattle.key_hash.proofs.words.half_at.Goals as goal

pub returns : goal.returns
unfolding half
returns c = c.from_le_bytes.ensures
