-- The operation that a caller of a cache that serves does next, by the words that its generator gives.
use Rattle.std.specs.Prelude.{ℕ, ◌+◌, ◌%◌, Option, Some, None, nat_lt, if◌then◌else◌}
use Rattle.rand_pcg.specs.Lcg.{Lcg}
use Rattle.load.specs.declared.serve_load.ServeLoad.{ServeLoad}
use Rattle.load.specs.declared.serve_operation.ServeOperation.{ServeOperation}
use Rattle.load.specs.declared.serve_operation.ServeOperation.TheVariants.{Get, Put, Remove}
use Rattle.load.specs.Operations.{past, word_of}
use Rattle.zipf.specs.Weights.{rank_of, scattered}

-- the ranks of a load's keys if they are drawn by Zipf's law, as many as keys; none if they are drawn alike
abbrev pub ranks_of : ServeLoad → Option ℕ
ranks_of load = if load.zipf then Some load.keys else None

-- the number of the key that a word draws: by Zipf's law the one that has the rank which the word draws, by the load's seed
abbrev pub key_drawn : ServeLoad → ℕ → ℕ
key_drawn load word = if load.zipf then scattered load.keys load.seed (rank_of load.keys word) else word % load.keys

-- by its kind's word and its key's word
abbrev pub served_by : ServeLoad → ℕ → ℕ → ServeOperation
served_by load kind key =
    if nat_lt (kind % 100) load.gets then Get (key_drawn load key)
    else (if nat_lt (kind % 100) (load.gets + load.removes) then Remove (key_drawn load key)
    else Put (key_drawn load key))

-- the operation that a caller does next
abbrev pub served_next_of : ServeLoad → Lcg → ServeOperation
served_next_of load generator = served_by load (word_of generator) (word_of (past generator))

-- the number of its key
abbrev pub key_number_of : ServeOperation → ℕ
key_number_of (Get number) = number
key_number_of (Remove number) = number
key_number_of (Put number) = number
