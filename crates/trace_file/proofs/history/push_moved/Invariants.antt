use Rattle.std.proofs.Common.{◌≡◌, ◌+◌, ◌≤◌, ◌++◌, length, take}
use Rattle.std.specs.Vec.{vec_capacity}
use Rattle.trace_file.specs.Stored.{each_moved}
use Rattle.trace_file.proofs.history.push_moved.Given as goal

abbrev pub invariant-loop-place : goal.invariant-loop-place
invariant-loop-place l = record {
  entries : l.entries.items ≡ l.initial.entries.items ++ take l.place (each_moved l.bytes l.others l.ends);
  room : length l.initial.entries.items + length l.others ≤ vec_capacity l.entries;
}
