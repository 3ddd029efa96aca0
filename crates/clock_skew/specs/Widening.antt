-- Calls that are wider than they were recorded.
use Rattle.std.specs.Prelude.{ℕ, ◌+◌, ◌-◌, nat_le, if◌then◌else◌}
use Rattle.trace_file.specs.declared.act.Act.{Act}
use Rattle.trace_file.specs.declared.act.Act.TheVariants as acts
use Rattle.trace_file.specs.declared.call.Call.{Call}

-- the greatest stamp
abbrev pub last_stamp : ℕ
last_stamp = 18446744073709551615

-- a stamp that is so much later, at most the greatest one
abbrev pub later : ℕ → ℕ → ℕ
later skew stamp = if nat_le (stamp + skew) last_stamp then stamp + skew else last_stamp

-- what was put expires so much later, and what was read was asked for so much earlier
abbrev pub act_widened : ℕ → Act → Act
act_widened skew (acts.Put value expires) = acts.Put value (later skew expires)
act_widened skew acts.Remove = acts.Remove
act_widened skew (acts.Hit value moment) = acts.Hit value (moment - skew)
act_widened skew acts.Miss = acts.Miss

-- a call that starts so much earlier and ends so much later
abbrev pub widened : ℕ → Call → Call
widened skew call = record call { start = call.start - skew; end = later skew call.end; act = act_widened skew call.act }
