-- From here on the room has the word over and over.
use Rattle.std.proofs.Common.{◌≡◌, ◌≤◌, ◌-◌, ◌%◌, drop, length}
use Rattle.serve_load.specs.Objects.{repeated}
use Rattle.serve_load.proofs.room.repeat_in.Given as goal

abbrev pub invariant-loop-left : goal.invariant-loop-left
invariant-loop-left l =
    (l.left ≤ length l.room) × (l.left % 8 ≡ 0) × (length l.room ≡ length l.fn.room) × (drop l.left l.room ≡ repeated l.word (length l.room - l.left))

abbrev pub decreases-loop-left : goal.decreases-loop-left
decreases-loop-left l = l.left
