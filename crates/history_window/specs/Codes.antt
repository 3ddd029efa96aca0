-- Calls in numbers.
use Rattle.std.specs.Prelude.{◌≡◌, ℕ, ◌<◌, ◌≤◌, ◌^◌, ◌↔◌, List, All, length, slice_get, Some}
use Rattle.trace_file.specs.Calls.{value_of}
use Rattle.trace_file.specs.declared.call.Call.{Call}
use Rattle.history_window.specs.declared.coded_call.CodedCall.{CodedCall}
use Rattle.history_window.specs.Acts.{is_putting, is_reading, is_writing}

-- where and when a call was made, and what it does, in numbers
pub record IsCode (position : ℕ) (call : Call) (code : CodedCall) : Type 0 where
  pub place : code.position ≡ position
  pub start : code.start ≡ call.start
  pub end : code.end ≡ call.end
  pub writes : code.writes ≡ is_writing call.act
  pub puts : code.puts ≡ is_putting call.act
  pub reads : code.reads ≡ is_reading call.act

-- the numbers are in their ranges
pub record IsFitCode (code : CodedCall) : Type 0 where
  pub position : code.position < 2 ^ 32
  pub key : code.key < 2 ^ 32
  pub value : code.value < 2 ^ 64
  pub start : code.start < 2 ^ 64
  pub end : code.end < 2 ^ 64

-- two calls in numbers: equal numbers exactly at equal keys, and at equal values of one key
pub record AreCodedAlike (a b : Call) (s t : CodedCall) : Type 0 where
  pub keys : (s.key ≡ t.key) ↔ (a.key ≡ b.key)
  pub values : (s.value ≡ t.value) ↔ ((a.key ≡ b.key) × (value_of a.act ≡ value_of b.act))

-- the calls of a history in numbers
pub record AreCodes (history : List Call) (codes : List CodedCall) : Type 0 where
  pub count : length codes ≡ length history
  pub each : (p : ℕ) (a : Call) (s : CodedCall) → slice_get history p ≡ Some a → slice_get codes p ≡ Some s → IsCode p a s
  pub alike : (p q : ℕ) (a b : Call) (s t : CodedCall) → slice_get history p ≡ Some a → slice_get history q ≡ Some b → slice_get codes p ≡ Some s → slice_get codes q ≡ Some t → AreCodedAlike a b s t
  pub fit : All IsFitCode codes

-- calls in numbers stand at their positions, in their ranges, and none ends before it starts
pub record AreSound (codes : List CodedCall) : Type 0 where
  pub fit : All IsFitCode codes
  pub spans : All (λ code. code.start ≤ code.end) codes
  pub placed : (k : ℕ) (code : CodedCall) → slice_get codes k ≡ Some code → code.position ≡ k
