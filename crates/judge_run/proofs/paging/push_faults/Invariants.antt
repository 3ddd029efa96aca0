use Rattle.std.proofs.Common.{◌≡◌, ◌++◌, string_bytes, take}
use Rattle.std.specs.List.{flat_map}
use Rattle.judge_run.specs.Paged.{fault_words}
use Rattle.judge_run.proofs.paging.push_faults.Given as goal

abbrev pub invariant-loop-fault : goal.invariant-loop-fault
invariant-loop-fault l = string_bytes l.text ≡ string_bytes l.fn.text ++ flat_map (fault_words l.scene.history.now l.scene.lines.now l.recorded) (take l.fault-index l.faults)
