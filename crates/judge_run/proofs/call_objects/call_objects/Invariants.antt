use Rattle.std.proofs.Common.{◌≡◌, map, string_bytes, take}
use Rattle.judge_run.specs.CallObjects.{call_object}
use Rattle.judge_run.proofs.call_objects.call_objects.Given as goal

abbrev pub invariant-loop-position : goal.invariant-loop-position
invariant-loop-position l = map string_bytes l.objects.items ≡ map (call_object l.history l.lines l.recorded) (take l.position-index l.positions)
