use Rattle.std.proofs.Common.{◌≡◌, length, take}
use Rattle.trace_file.specs.Stored.{each_ended}
use Rattle.trace_file.proofs.history.set_ends.Given as goal

abbrev pub invariant-loop-place : goal.invariant-loop-place
invariant-loop-place l = record {
  ended : l.entries.items ≡ each_ended l.initial.entries.items (take l.place l.ends);
  many : length l.entries.items ≡ length l.initial.entries.items;
}
