-- Reading a trace from its first byte to its last, field by field, with the first fault that is met.
use Rattle.std.specs.Prelude.{ℕ, zero, suc, ◌+◌, List, [], ◌∷◌, length, take, drop, Option, Some, None, Result, Ok, Err, not, nat_lt, ◌==◌, if◌then◌else◌, position}
use Rattle.std.specs.List.{zip}
use Rattle.std.specs.Int.{Width, w16, w32, w64, byte_len, from_be_bytes}
use Rattle.record_pages.specs.Expiry.{never}
use Rattle.trace_file.specs.declared.act.Act.{Act}
use Rattle.trace_file.specs.declared.act.Act.TheVariants as acts
use Rattle.trace_file.specs.declared.call.Call.{Call}
use Rattle.trace_file.specs.declared.header.Header.{Header}
use Rattle.trace_file.specs.declared.call_kind.CallKind.{CallKind}
use Rattle.trace_file.specs.declared.call_kind.CallKind.TheVariants.{Put, Remove, Hit, Miss}
use Rattle.trace_file.specs.declared.item_fault.ItemFault.{ItemFault}
use Rattle.trace_file.specs.declared.item_fault.ItemFault.TheVariants.{Short, Fault}
use Rattle.trace_file.specs.declared.trace.Trace.{Trace}
use Rattle.trace_file.specs.declared.trace_fault.TraceFault.{TraceFault}
use Rattle.trace_file.specs.declared.trace_fault.TraceFault.TheVariants.{BadMagic, TooMany, BadKind, BadKey, BadValue, Truncated, TrailingBytes}
use Rattle.trace_file.specs.declared.version.Version.{Version}
use Rattle.trace_file.specs.declared.version.Version.TheVariants.{Timed, Timeless}
use Rattle.trace_file.specs.Text.{magic, most_calls, header_of}

-- a place in a text: its offset, and the bytes from it on
pub record Place : Type 0 where
  pub at : ℕ
  pub bytes : List ℕ

abbrev pub place : ℕ → List ℕ → Place
place at bytes = record { at = at; bytes = bytes }

-- what reading at a place gives: a value and the place after it, or why there is none
abbrev pub Read : Type 0 → Type 0
Read A = Result (A × Place) ItemFault

infixl 10 ◌>>=◌
abbrev pub ◌>>=◌ : {A B : Type 0} → Result A ItemFault → (A → Result B ItemFault) → Result B ItemFault
(Ok x) >>= f = f x
(Err e) >>= f = Err e

-- the next n bytes, once all of them are there
abbrev pub bytes_at : ℕ → Place → Read (List ℕ)
bytes_at n p = if nat_lt (length p.bytes) n then Err Short else Ok (take n p.bytes, place (p.at + n) (drop n p.bytes))

-- a number, once all of its bytes are there
unfoldable pub number_at : Width → Place → Read ℕ
number_at w p = do
  bytes ← bytes_at (byte_len w) p
  Ok (from_be_bytes w bytes.0, bytes.1)

-- the first byte of these, with the place after it
abbrev pub first_at : ℕ → List ℕ → Read ℕ
first_at at [] = Err Short
first_at at (b ∷ rest) = Ok (b, place (at + 1) rest)

unfoldable pub byte_at : Place → Read ℕ
byte_at p = first_at p.at p.bytes

-- the value if there is one, otherwise the fault
abbrev pub or_fault : {A : Type 0} → Option A → TraceFault → Place → Read A
or_fault (Some x) fault p = Ok (x, p)
or_fault None fault p = Err (Fault fault)

-- the kind that a byte stands for
abbrev pub kind_of_byte : ℕ → Option CallKind
kind_of_byte b = if b == 1 then Some Put else (if b == 2 then Some Remove else (if b == 3 then Some Hit else (if b == 4 then Some Miss else None)))

unfoldable pub kind_at : Place → Read CallKind
kind_at p = do
  byte ← byte_at p
  or_fault (kind_of_byte byte.0) (BadKind p.at) byte.1

-- a key, after its length, which is not 0
unfoldable pub key_at : Place → Read (List ℕ)
key_at p = do
  len ← byte_at p
  if len.0 == 0 then Err (Fault (BadKey p.at)) else bytes_at len.0 len.1

-- a value, after its length, which is at most 2,048
unfoldable pub value_at : Place → Read (List ℕ)
value_at p = do
  len ← number_at w16 p
  if nat_lt 2048 len.0 then Err (Fault (BadValue p.at)) else bytes_at len.0 len.1

-- a time, or what its lack means in a trace that says no times
unfoldable pub time_at : Version → ℕ → Place → Read ℕ
time_at Timed meant p = number_at w64 p
time_at Timeless meant p = Ok (meant, p)

-- the act of a kind, with its value and its time if it has them
unfoldable pub act_at : Version → CallKind → Place → Read Act
act_at version Put p = do
  value ← value_at p
  expires ← time_at version never value.1
  Ok (acts.Put value.0 expires.0, expires.1)
act_at version Remove p = Ok (acts.Remove, p)
act_at version Hit p = do
  value ← value_at p
  moment ← time_at version 0 value.1
  Ok (acts.Hit value.0 moment.0, moment.1)
act_at version Miss p = Ok (acts.Miss, p)

unfoldable pub call_at : Version → Place → Read Call
call_at version p = do
  kind ← kind_at p
  caller ← number_at w16 kind.1
  start ← number_at w64 caller.1
  end ← number_at w64 start.1
  key ← key_at end.1
  act ← act_at version kind.0 key.1
  Ok (record { caller = caller.0; start = start.0; end = end.0; key = key.0; act = act.0 }, act.1)

abbrev pub position_at : Place → Read ℕ
position_at p = number_at w32 p

-- where these bytes differ from those first, if they do
abbrev pub first_difference : List ℕ → List ℕ → Option ℕ
first_difference bytes others = position (λ p. not (p.0 == p.1)) (zip bytes others)

-- the form whose magic they do not differ from, by where they differ from each; a fault is where they differ from the timed one
abbrev pub version_by : Option ℕ → Option ℕ → ℕ → Place → Read Version
version_by None older at p = Ok (Timed, p)
version_by (Some i) None at p = Ok (Timeless, p)
version_by (Some i) (Some j) at p = Err (Fault (BadMagic (at + i)))

-- the form, by the magic, which is judged once its eight bytes are there
unfoldable pub version_at : Place → Read Version
version_at p = do
  bytes ← bytes_at 8 p
  version_by (first_difference bytes.0 (magic Timed)) (first_difference bytes.0 (magic Timeless)) p.at bytes.1

-- how many calls there are
unfoldable pub count_at : Place → Read ℕ
count_at p = do
  count ← number_at w32 p
  if nat_lt most_calls count.0 then Err (Fault (TooMany p.at)) else Ok count

unfoldable pub header_at : Place → Read Header
header_at p = do
  version ← version_at p
  count ← count_at version.1
  Ok (header_of version.0 count.0, count.1)

-- n items, one after the other
unfoldable pub many_at : {A : Type 0} → (Place → Read A) → ℕ → Place → Read (List A)
many_at item zero p = Ok ([], p)
many_at item (suc n) p = do
  first ← item p
  others ← many_at item n first.1
  Ok (first.0 ∷ others.0, others.1)

-- the pair, if nothing stands after it
unfoldable pub end_at : Trace → Place → Result Trace ItemFault
end_at trace p = if length p.bytes == 0 then Ok trace else Err (Fault (TrailingBytes p.at))

-- the whole trace
unfoldable pub trace_at : Place → Result Trace ItemFault
trace_at p = do
  header ← header_at p
  calls ← many_at (call_at header.0.version) header.0.count header.1
  positions ← many_at position_at header.0.count calls.1
  end_at (record { history = calls.0; certificate = positions.0 }) positions.1

-- what a whole input of this length gives: the trace, or the first fault
abbrev pub at_end : ℕ → Result Trace ItemFault → Result Trace TraceFault
at_end len (Ok trace) = Ok trace
at_end len (Err Short) = Err (Truncated len)
at_end len (Err (Fault fault)) = Err fault

-- what a whole input gives
unfoldable pub outcome_of : List ℕ → Result Trace TraceFault
outcome_of bytes = at_end (length bytes) (trace_at (place 0 bytes))

-- the fault that reading has met
abbrev pub met : Result Trace ItemFault → Option TraceFault
met (Ok trace) = None
met (Err Short) = None
met (Err (Fault fault)) = Some fault

-- the first fault that these bytes have, whatever follows them
unfoldable pub first_fault_of : List ℕ → Option TraceFault
first_fault_of bytes = met (trace_at (place 0 bytes))
