-- Zipf's law with exponent 1: how often each rank is drawn, and which rank a random word draws. The first rank is 0.
use Rattle.std.specs.Prelude.{ℕ, zero, suc, ◌+◌, ◌*◌, ◌/◌, ◌%◌, nat_le, if◌then◌else◌}

-- the weight of a rank: that of the first is 2^32, and that of the one after so many others as many times less, rounded down
abbrev pub weight_of : ℕ → ℕ
weight_of rank = 4294967296 / (rank + 1)

-- the weights of all ranks before this one
unfoldable pub ahead_of : ℕ → ℕ
ahead_of zero = 0
ahead_of (suc rank) = ahead_of rank + weight_of rank

-- the last rank up to this one before which the weights are no more than so much
unfoldable pub rank_within : ℕ → ℕ → ℕ
rank_within zero point = 0
rank_within (suc rank) point = if nat_le (ahead_of (suc rank)) point then suc rank else rank_within rank point

-- the point in the weights of so many ranks to which a word of 32 bits leads: it has the share of them before it that the word has of
-- all words
abbrev pub point_of : ℕ → ℕ → ℕ
point_of ranks word = word * ahead_of ranks / 4294967296

-- which of so many ranks a word draws: the one in whose weight the point of the word lies
abbrev pub rank_of : ℕ → ℕ → ℕ
rank_of ranks word = rank_within ranks (point_of ranks word)

-- the number that has this rank among so many: by steps of the greatest prime below 2^32, from the number of the seed on
abbrev pub scattered : ℕ → ℕ → ℕ → ℕ
scattered ranks seed rank = (rank * 4294967291 + seed) % ranks
