use Rattle.key_hash.specs.Words.{word}
use Rattle.key_hash.proofs.words.word_at.Goals as goal

pub returns : goal.returns
unfolding word
returns c = rw (c.half_at.ensures, c.half_at-2.ensures)
