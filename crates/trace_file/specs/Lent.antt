-- The calls that lent ones show.
use Rattle.trace_file.specs.declared.act.Act.{Act}
use Rattle.trace_file.specs.declared.act.Act.TheVariants as acts
use Rattle.trace_file.specs.declared.act_ref.ActRef.{ActRef}
use Rattle.trace_file.specs.declared.act_ref.ActRef.TheVariants.{Put, Remove, Hit, Miss}
use Rattle.trace_file.specs.declared.call.Call.{Call}
use Rattle.trace_file.specs.declared.call_ref.CallRef.{CallRef}

-- the act that a lent one shows
abbrev pub act_shown : ActRef → Act
act_shown (Put value expires) = acts.Put value.now expires
act_shown Remove = acts.Remove
act_shown (Hit value moment) = acts.Hit value.now moment
act_shown Miss = acts.Miss

-- the call that a lent one shows
abbrev pub call_shown : CallRef → Call
call_shown r = record { caller = r.caller; start = r.start; end = r.end; key = r.key.now; act = act_shown r.act }
