use Rattle.std.proofs.Common.{◌≡◌, map, string_bytes, take}
use Rattle.judge_run.specs.FaultsTold.{fault_object}
use Rattle.judge_run.proofs.fault_objects.fault_objects.Given as goal

abbrev pub invariant-loop-fault : goal.invariant-loop-fault
invariant-loop-fault l = map string_bytes l.objects.items ≡ map (fault_object l.history l.lines l.recorded) (take l.fault-index l.faults)
