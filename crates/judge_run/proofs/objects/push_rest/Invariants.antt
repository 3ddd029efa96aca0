use Rattle.std.proofs.Common.{◌≡◌, ◌++◌, map, string_bytes, take}
use Rattle.judge_run.specs.Objects.{after_commas}
use Rattle.judge_run.proofs.objects.push_rest.Given as goal

abbrev pub invariant-loop-object : goal.invariant-loop-object
invariant-loop-object l = string_bytes l.text ≡ string_bytes l.fn.text ++ after_commas (map string_bytes (take l.object-index l.objects))
