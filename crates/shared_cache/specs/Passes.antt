-- A pass as contracts see it, and what is true of every pass.
use Rattle.std.specs.Prelude.{◌≡◌, ℕ, suc, ◌<◌, ◌≤◌, List, [], ◌∷◌, Option, Some, None, Bool, true, false, ◌==◌, All, slice_get, slice_index_or, ◌+◌, ◌^◌, length}
use Rattle.trace_file.specs.Stored.{LiesIn}
use Rattle.shared_cache.specs.declared.listed_entry.ListedEntry.{ListedEntry}
use Rattle.shared_cache.specs.Listed.{Listed, calls_listed}
use Rattle.shared_cache.specs.Stamps.{Sight}

-- a pass: its caller, what its seat has seen of the clock, and the calls that it lists
pub record Ticket : Type 0 where
  pub caller : ℕ
  pub sight : Sight
  pub calls : List Listed

-- the pass of a caller that has made no call
abbrev pub new_ticket : ℕ → Sight → Ticket
new_ticket caller sight = record { caller = caller; sight = sight; calls = [] }

-- the most lanes of a cache
abbrev pub most_lanes : ℕ
most_lanes = 16

-- the most bytes of a call's key and value
abbrev pub most_bytes : ℕ
most_bytes = 2303

-- a place one further back, or else the first place if it is one
abbrev pub place_behind : Option ℕ → Bool → Option ℕ
place_behind (Some place) is_first = Some (suc place)
place_behind None true = Some 0
place_behind None false = None

-- the place in a list of the lane's last call
abbrev pub former_at : ℕ → List Listed → Option ℕ
former_at lane [] = None
former_at lane (l ∷ ls) = place_behind (former_at lane ls) (l.lane == lane)

-- the call at a place, if it is one
abbrev pub call_at : List Listed → Option ℕ → Option Listed
call_at calls (Some place) = slice_get calls place
call_at calls None = None

-- the lane's last call in a list
abbrev pub former : ℕ → List Listed → Option Listed
former lane calls = call_at calls (former_at lane calls)

-- the list whose last call has this end
abbrev pub with_end : ℕ → List Listed → List Listed
with_end end [] = []
with_end end (l ∷ []) = record l { end = end } ∷ []
with_end end (l ∷ m ∷ ls) = l ∷ with_end end (m ∷ ls)

-- the same of what is kept of a list
abbrev pub kept_with_end : ℕ → List ListedEntry → List ListedEntry
kept_with_end end [] = []
kept_with_end end (e ∷ []) = record e { end = end } ∷ []
kept_with_end end (e ∷ f ∷ es) = e ∷ kept_with_end end (f ∷ es)

-- a listed call ends at its point or later, and its pass has seen that
pub record IsTimely (seen : ℕ) (l : Listed) : Type 0 where
  pub ended : l.call.point ≤ l.end
  pub met : l.end ≤ seen

-- an end is above its point, unless the clock is full
pub record IsEnd (point end : ℕ) : Type 0 where
  pub from_point : point ≤ end
  pub above : ¬ (end + 1 ≡ 2 ^ 63) → point < end

-- what is true of every pass: its calls are timely, and for each lane the place of its last call is noted
pub record IsPass (seen : ℕ) (calls : List Listed) (places : List (Option ℕ)) : Type 0 where
  pub timely : All (IsTimely seen) calls
  pub noted : (lane : ℕ) → lane < most_lanes → slice_index_or places lane None ≡ former_at lane calls

-- the same of what a pass keeps, whose bytes lie in its store
pub record KeepsCalls (seen : ℕ) (bytes : List ℕ) (entries : List ListedEntry) (places : List (Option ℕ)) : Type 0 where
  pub pass : IsPass seen (calls_listed bytes entries) places
  pub lie : All (λ e. LiesIn (length bytes) e.entry) entries

-- a listed call ends at its point or later
abbrev pub IsInOrder : Listed → Type 0
IsInOrder l = l.call.point ≤ l.end

-- what is true of listed calls of which these entries are kept, whose bytes lie in this store
pub record KeepsListed (bytes : List ℕ) (entries : List ListedEntry) : Type 0 where
  pub lie : All (λ e. LiesIn (length bytes) e.entry) entries
  pub ended : All IsInOrder (calls_listed bytes entries)
