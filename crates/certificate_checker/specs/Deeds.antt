-- What a call does, apart from who made it and when.
use Rattle.std.specs.Prelude.{ℕ, List}
use Rattle.trace_file.specs.declared.act.Act.{Act}
use Rattle.trace_file.specs.declared.call.Call.{Call}

-- a key, and what was done to it
pub record Deed : Type 0 where
  pub key : List ℕ
  pub act : Act

-- what a call does
abbrev pub deed_of : Call → Deed
deed_of call = record { key = call.key; act = call.act }
