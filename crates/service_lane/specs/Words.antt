-- The words of admission of a lane.
use Rattle.std.specs.Prelude.{ℕ, fold}
use Rattle.std.specs.Hash as fed
use Rattle.key_hash.specs.declared.random_seed.RandomSeed.{RandomSeed}
use Rattle.key_hash.specs.Hashing.{started, written}
use Rattle.rand_pcg.specs.Lcg.{Lcg, increment_of}
use Rattle.rand_pcg.specs.Lcg as lcg
use Rattle.rand_pcg.specs.Pcg.{multiplier_64, pcg32}

-- the generator of the words of a lane with this number: started by a hash of the number, on a stream of its own
unfoldable pub words_for : RandomSeed → ℕ → Lcg
words_for seed number = lcg.started 64 multiplier_64 (fold written (started seed) (fed.u64 number)).state (increment_of 64 number)

-- the next word of a generator
abbrev pub next_word : Lcg → ℕ
next_word words = (pcg32 words).0

-- the generator after its next word
abbrev pub next_words : Lcg → Lcg
next_words words = (pcg32 words).1
