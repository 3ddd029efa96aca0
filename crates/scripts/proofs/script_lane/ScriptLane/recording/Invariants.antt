use Rattle.std.proofs.Common.{◌≡◌, map, take}
use Rattle.std.specs.List.{range_with_len}
use Rattle.scripts.specs.Own.{ended}
use Rattle.scripts.proofs.script_lane.ScriptLane.recording.Given as goal

-- the calls so far
abbrev pub invariant-loop-position : goal.invariant-loop-position
invariant-loop-position g l = record {
  calls : l.history ≡ map ended (take l.position l.lane.calls);
  places : l.certificate ≡ range_with_len 0 l.position;
}
