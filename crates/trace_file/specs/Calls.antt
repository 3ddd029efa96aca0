-- What a call of a history is.
use Rattle.std.specs.Prelude.{ℕ, ◌<◌, ◌^◌, List, []}
use Rattle.record_pages.specs.Bounded.{IsKey, IsValue}
use Rattle.trace_file.specs.declared.act.Act.{Act}
use Rattle.trace_file.specs.declared.act.Act.TheVariants.{Put, Remove, Hit, Miss}
use Rattle.trace_file.specs.declared.call.Call.{Call}

-- the bytes of the value that an act speaks of, none if it speaks of none
abbrev pub value_of : Act → List ℕ
value_of (Put value expires) = value
value_of Remove = []
value_of (Hit value moment) = value
value_of Miss = []

-- when what an act put expires, or the moment that it was asked for, 0 if it speaks of no time
abbrev pub time_of : Act → ℕ
time_of (Put value expires) = expires
time_of Remove = 0
time_of (Hit value moment) = moment
time_of Miss = 0

-- the numbers, the key, the value and the time of a call are in their ranges
pub record IsCall (call : Call) : Type 0 where
  pub caller : call.caller < 2 ^ 16
  pub start : call.start < 2 ^ 64
  pub end : call.end < 2 ^ 64
  pub key : IsKey call.key
  pub value : IsValue (value_of call.act)
  pub time : time_of call.act < 2 ^ 64
