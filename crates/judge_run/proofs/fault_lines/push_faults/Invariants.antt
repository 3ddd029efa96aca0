use Rattle.std.proofs.Common.{◌≡◌, ◌++◌, string_bytes, take}
use Rattle.std.specs.List.{flat_map}
use Rattle.judge_run.specs.FaultsTold.{fault_text}
use Rattle.judge_run.proofs.fault_lines.push_faults.Given as goal

abbrev pub invariant-loop-fault : goal.invariant-loop-fault
invariant-loop-fault l = string_bytes l.text ≡ string_bytes l.fn.text ++ flat_map (fault_text l.history l.lines l.recorded) (take l.fault-index l.faults)
