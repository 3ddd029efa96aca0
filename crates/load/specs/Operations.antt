-- The operation that a caller does next, by the words that its generator gives.
use Rattle.std.specs.Prelude.{ℕ, ◌+◌, ◌%◌, ◌/◌, List, ◌++◌, take, codes, ◌==◌, nat_lt, if◌then◌else◌}
use Rattle.std.specs.Fmt.{decimal}
use Rattle.std.specs.List.{repeat}
use Rattle.std.specs.Int.{w16, w32, to_be_bytes}
use Rattle.rand_pcg.specs.Lcg.{Lcg}
use Rattle.rand_pcg.specs.Pcg.{pcg32}
use Rattle.record_pages.specs.Expiry.{never}
use Rattle.history_recorder.specs.declared.operation.Operation.{Operation}
use Rattle.history_recorder.specs.declared.operation.Operation.TheVariants.{Get, Put, Remove}
use Rattle.load.specs.declared.load.Load.{Load}

-- the next word of a generator
abbrev pub word_of : Lcg → ℕ
word_of generator = (pcg32 generator).0

-- a generator past its next word
abbrev pub past : Lcg → Lcg
past generator = (pcg32 generator).1

-- a key: k, and a word modulo the number of keys, in decimal
abbrev pub key_of : Load → ℕ → List ℕ
key_of load word = codes "k" ++ decimal (word % load.keys)

-- the value of a caller's operation: its caller and its number, repeated and cut
abbrev pub value_of : Load → ℕ → ℕ → List ℕ
value_of load caller number =
    take load.value_bytes (repeat (load.value_bytes / 6 + 1) (to_be_bytes w16 caller ++ to_be_bytes w32 number))

-- the moment of a caller's get with this number: the number, if puts expire
abbrev pub moment_of : Load → ℕ → ℕ
moment_of load number = if load.ttl == 0 then 0 else number

-- the moment from which a caller's put with this number is expired: that of its operation ttl further on
abbrev pub expires_of : Load → ℕ → ℕ
expires_of load number = if load.ttl == 0 then never else number + load.ttl

-- an operation, and the generator past the words that were drawn for it
pub record Drawn : Type 0 where
  pub operation : Operation
  pub generator : Lcg

abbrev pub drawn : Operation → Lcg → Drawn
drawn operation generator = record { operation = operation; generator = generator }

-- by its kind's word and its key's word. A put draws a third: its word of admission
abbrev pub drawn_by : Load → ℕ → ℕ → ℕ → ℕ → Lcg → Drawn
drawn_by load caller number kind key generator =
    if nat_lt (kind % 100) load.gets then drawn (Get (key_of load key) (moment_of load number)) generator
    else (if nat_lt (kind % 100) (load.gets + load.removes) then drawn (Remove (key_of load key)) generator
    else drawn (Put (key_of load key) (value_of load caller number) (word_of generator) (expires_of load number)) (past generator))

-- the operation of this number that a caller does next
abbrev pub next_of : Load → ℕ → ℕ → Lcg → Drawn
next_of load caller number generator =
    drawn_by load caller number (word_of generator) (word_of (past generator)) (past (past generator))
