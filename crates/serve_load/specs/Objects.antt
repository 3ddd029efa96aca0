-- The keys and values of a load, and when values expire.
use Rattle.std.specs.Prelude.{ℕ, ◌+◌, ◌/◌, List, [], ◌∷◌, ◌++◌, take, ◌==◌, if◌then◌else◌}
use Rattle.std.specs.List.{repeat}
use Rattle.std.specs.Int.{w16, w32, to_be_bytes}
use Rattle.record_pages.specs.Expiry.{never}
use Rattle.load.specs.declared.serve_load.ServeLoad.{ServeLoad}

-- a key: its caller, its number, and four zeros
abbrev pub key_of : ℕ → ℕ → List ℕ
key_of caller key = to_be_bytes w16 caller ++ (to_be_bytes w32 key ++ 0 ∷ 0 ∷ 0 ∷ 0 ∷ [])

-- what a value repeats: the number of its key, and of the operation that put it
abbrev pub word_of : ℕ → ℕ → List ℕ
word_of key number = to_be_bytes w32 key ++ to_be_bytes w32 number

-- the first so many bytes of a word that is repeated
abbrev pub repeated : List ℕ → ℕ → List ℕ
repeated word len = take len (repeat (len / 8 + 1) word)

-- the value of this many bytes that an operation puts for a key
abbrev pub value_of : ℕ → ℕ → ℕ → List ℕ
value_of len key number = repeated (word_of key number) len

-- the moment of a caller's operation: its number, if puts expire
abbrev pub moment_of : ServeLoad → ℕ → ℕ
moment_of load number = if load.ttl == 0 then 0 else number

-- the moment from which what a caller's operation put is expired: that of its operation ttl further on
abbrev pub expires_of : ServeLoad → ℕ → ℕ
expires_of load number = if load.ttl == 0 then never else number + load.ttl
