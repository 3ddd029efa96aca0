-- What is sorted of calls in numbers.
use Rattle.std.specs.Prelude.{ℕ, List, Option, Some, None, if◌then◌else◌}
use Rattle.std.specs.List.{filter_map}
use Rattle.history_window.specs.declared.coded_call.CodedCall.{CodedCall}
use Rattle.history_window.specs.declared.peak.Peak.{Peak}
use Rattle.history_window.specs.declared.tables.HitTables.{HitTables}
use Rattle.history_window.specs.declared.tables.Tables.{Tables}
use Rattle.history_window.specs.declared.tables.WriteTables.{WriteTables}
use Rattle.history_window.specs.Codes.{AreSound}
use Rattle.history_window.specs.Peaks.{ArePeaks}
use Rattle.history_window.specs.Ranks.{AreSorted, rank_of, turn_of}

-- the turn at which a call starts
abbrev pub first_turn : CodedCall → ℕ
first_turn code = turn_of code.key code.start code.position

-- the last turn of the stamp at which a call ends
abbrev pub last_turn : CodedCall → ℕ
last_turn code = turn_of code.key code.end 4294967295

-- a put's start, by the number of its value
abbrev pub put_start : CodedCall → Option ℕ
put_start code = if code.puts then Some (rank_of code.value code.start) else None

-- a put's end, by the number of its value
abbrev pub put_end : CodedCall → Option ℕ
put_end code = if code.puts then Some (rank_of code.value code.end) else None

-- the turn of a write
abbrev pub write_turn : CodedCall → Option ℕ
write_turn code = if code.writes then Some (first_turn code) else None

-- from the end of a write on, its start
abbrev pub write_over : CodedCall → Option Peak
write_over code = if code.writes then Some (record { foot = rank_of code.key code.end; height = rank_of code.key code.start }) else None

-- from the turn of a write on, its last turn
abbrev pub write_span : CodedCall → Option Peak
write_span code = if code.writes then Some (record { foot = first_turn code; height = last_turn code }) else None

-- what is asked for a hit
pub record AreHitTables (codes : List CodedCall) (tables : HitTables) : Type 0 where
  pub overs : ArePeaks (filter_map write_over codes) tables.overs
  pub starts : AreSorted (filter_map put_start codes) tables.starts.items
  pub ends : AreSorted (filter_map put_end codes) tables.ends.items

-- what is asked for a write
pub record AreWriteTables (codes : List CodedCall) (tables : WriteTables) : Type 0 where
  pub spans : ArePeaks (filter_map write_span codes) tables.spans
  pub turns : AreSorted (filter_map write_turn codes) tables.turns.items

-- the tables of calls in numbers
pub record AreTables (tables : Tables) : Type 0 where
  pub sound : AreSound tables.codes.now
  pub hits : AreHitTables tables.codes.now tables.hits
  pub writes : AreWriteTables tables.codes.now tables.writes
