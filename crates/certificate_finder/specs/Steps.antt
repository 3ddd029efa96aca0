-- Calls in numbers.
use Rattle.std.specs.Prelude.{◌≡◌, ℕ, ◌<◌, ◌^◌, ◌↔◌, List, All, length, slice_get, Some}
use Rattle.trace_file.specs.declared.call.Call.{Call}
use Rattle.trace_file.specs.Calls.{value_of, time_of}
use Rattle.trace_file.specs.Kinds.{kind_of}
use Rattle.trace_file.specs.declared.call_kind.CallKind.{CallKind}
use Rattle.trace_file.specs.declared.call_kind.CallKind.TheVariants as kinds
use Rattle.certificate_finder.specs.declared.numbered_call.NumberedCall.{NumberedCall}

-- what a call does and when, in numbers
pub record IsStep (call : Call) (step : NumberedCall) : Type 0 where
  pub kind : step.kind ≡ kind_of call.act
  pub start : step.start ≡ call.start
  pub end : step.end ≡ call.end
  pub time : step.time ≡ time_of call.act

-- a step has the call's numbers in their ranges
pub record IsFit (step : NumberedCall) : Type 0 where
  pub key : step.key < 2 ^ 32
  pub value : step.value < 2 ^ 32
  pub start : step.start < 2 ^ 64
  pub end : step.end < 2 ^ 64
  pub time : step.time < 2 ^ 64

-- two calls and their steps: equal numbers exactly at equal keys, and at equal values
pub record AreAlike (a b : Call) (s t : NumberedCall) : Type 0 where
  pub keys : (s.key ≡ t.key) ↔ (a.key ≡ b.key)
  pub values : (s.value ≡ t.value) ↔ (value_of a.act ≡ value_of b.act)

-- the calls of a history in numbers
pub record AreSteps (history : List Call) (steps : List NumberedCall) : Type 0 where
  pub count : length steps ≡ length history
  pub each : (p : ℕ) (a : Call) (s : NumberedCall) → slice_get history p ≡ Some a → slice_get steps p ≡ Some s → IsStep a s
  pub alike : (p q : ℕ) (a b : Call) (s t : NumberedCall) → slice_get history p ≡ Some a → slice_get history q ≡ Some b → slice_get steps p ≡ Some s → slice_get steps q ≡ Some t → AreAlike a b s t
  pub fit : All IsFit steps
