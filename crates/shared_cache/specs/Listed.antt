-- A call that a pass lists.
use Rattle.std.specs.Prelude.{ℕ, List, map}
use Rattle.trace_file.specs.Stored.{call_in}
use Rattle.recorded_lane.specs.declared.noted.Noted.{Noted}
use Rattle.recorded_lane.specs.Points.{noted_in, noted_shown}
use Rattle.shared_cache.specs.declared.listed_entry.ListedEntry.{ListedEntry}
use Rattle.shared_cache.specs.declared.listed_ref.ListedRef.{ListedRef}

-- a listed call: the lane that recorded it, its position there, the call as it was recorded, and the stamp at which it ended
pub record Listed : Type 0 where
  pub lane : ℕ
  pub position : ℕ
  pub call : Noted
  pub end : ℕ

-- the listed call that a lent one shows
abbrev pub listed_shown : ListedRef → Listed
listed_shown l = record { lane = l.lane; position = l.position; call = noted_shown l.call; end = l.end }

-- the listed call of which this is kept, by the store of its bytes
abbrev pub listed_in : List ℕ → ListedEntry → Listed
listed_in bytes e = record { lane = e.lane; position = e.position; call = noted_in (call_in bytes e.entry); end = e.end }

-- the listed calls of which these are kept
abbrev pub calls_listed : List ℕ → List ListedEntry → List Listed
calls_listed bytes entries = map (listed_in bytes) entries
