use Rattle.std.proofs.Common.{◌≡◌, ◌≤◌, ◌+◌, ◌++◌, length}
use Rattle.kset.specs.Sets.{notes_of}
use Rattle.kset.specs.Shown.{with_flags, visible_from}
use Rattle.kset.proofs.sets.visible.Given as goal

abbrev pub invariant-loop-slot : goal.invariant-loop-slot
invariant-loop-slot l = record {
  rest : l.visible ++ with_flags (notes_of l.sets l.set) (visible_from (notes_of l.sets l.set) l.slot l.records) ≡ with_flags (notes_of l.sets l.set) (visible_from (notes_of l.sets l.set) 0 l.initial.records);
  left : l.slot + length l.records ≡ length l.initial.records;
  few : length l.visible ≤ l.slot;
}
