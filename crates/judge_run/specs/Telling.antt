-- The calls that a reason speaks of, and what is said of them.
use Rattle.std.specs.Prelude.{ℕ, ◌==◌, nat_lt, List, [], ◌∷◌, ◌++◌, if◌then◌else◌, codes, fold, take, slice_get, option_map, unwrap_or, filter_map}
use Rattle.std.specs.Fmt.{decimal}
use Rattle.std.specs.List.{flat_map}
use Rattle.trace_file.specs.declared.call.Call.{Call}
use Rattle.certificate_finder.specs.declared.excluded.Excluded.{Excluded}
use Rattle.certificate_finder.specs.declared.excluded.Excuse.{Excuse}
use Rattle.certificate_finder.specs.declared.excluded.Excuse.TheVariants.{Later, Expired, Replaced}
use Rattle.certificate_finder.specs.declared.faults.CrossedWrites.{CrossedWrites}
use Rattle.certificate_finder.specs.declared.witness.Side.{Side}
use Rattle.certificate_finder.specs.declared.witness.Witness.{Witness}
use Rattle.certificate_finder.specs.declared.witness.Witness.TheVariants.{Interval, Hit, Crossed, Unread}
use Rattle.history_text.specs.Coding.{word_of}

-- a number put at its place among ascending ones, unless it stands there
abbrev pub put_in : List ℕ → ℕ → List ℕ
put_in [] n = n ∷ []
put_in (t ∷ ts) n = if nat_lt n t then n ∷ t ∷ ts else (if n == t then t ∷ ts else t ∷ put_in ts n)

-- numbers, ascending and each once
abbrev pub ascending : List ℕ → List ℕ
ascending numbers = fold put_in [] numbers

-- the write that replaced a put, if that is why it was not read
abbrev pub excuse_positions : Excuse → List ℕ
excuse_positions Later = []
excuse_positions Expired = []
excuse_positions (Replaced write) = write ∷ []

-- a put that was not read, with what replaced it
abbrev pub excluded_positions : Excluded → List ℕ
excluded_positions excluded = excluded.put ∷ excuse_positions excluded.why

-- the calls of a side
abbrev pub side_positions : Side → List ℕ
side_positions side = side.write ∷ side.early ∷ side.late ∷ []

-- the calls of two sides
abbrev pub crossed_positions : CrossedWrites → List ℕ
crossed_positions writes = side_positions writes.one ++ side_positions writes.other

-- the calls that a reason speaks of; of the puts that a hit can't have read, or would cross with another write, the first eight
abbrev pub witness_positions : Witness → List ℕ
witness_positions (Interval call) = call ∷ []
witness_positions (Hit hit puts) = hit ∷ flat_map excluded_positions (take 8 puts.items)
witness_positions (Crossed one other) = side_positions one ++ side_positions other
witness_positions (Unread unread) = unread.hit ∷ flat_map crossed_positions (take 8 unread.reads.items)

-- the lines of calls
abbrev pub lines_at : List ℕ → List ℕ → List ℕ
lines_at lines positions = filter_map (slice_get lines) positions

-- the kind of a reason
abbrev pub witness_word : Witness → List ℕ
witness_word (Interval call) = codes "interval"
witness_word (Hit hit puts) = codes "hit"
witness_word (Crossed one other) = codes "crossed"
witness_word (Unread unread) = codes "unread"

-- the call whose key a reason is about
abbrev pub first_position : Witness → ℕ
first_position (Interval call) = call
first_position (Hit hit puts) = hit
first_position (Crossed one other) = one.write
first_position (Unread unread) = unread.hit

-- the key of the call at a position
abbrev pub key_at : List Call → ℕ → List ℕ
key_at calls position = unwrap_or (option_map (λ call. call.key) (slice_get calls position)) []

-- numbers, each after a space
abbrev pub spaced : List ℕ → List ℕ
spaced numbers = flat_map (λ n. codes " " ++ decimal n) numbers

-- what a reason speaks of: its kind, its key, and the lines of its calls
abbrev pub reason_text : List Call → List ℕ → Witness → List ℕ
reason_text calls lines witness =
    witness_word witness ++ (codes " key " ++ (word_of (key_at calls (first_position witness)) ++ (codes " lines" ++ spaced (ascending (lines_at lines (witness_positions witness))))))
