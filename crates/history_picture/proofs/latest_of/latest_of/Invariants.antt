use Rattle.std.proofs.Common.{◌≤◌, length}
use Rattle.history_picture.specs.Places.{NoneWrites}
use Rattle.history_picture.proofs.latest_of.latest_of.Given as goal

abbrev pub invariant-loop-rest : goal.invariant-loop-rest
invariant-loop-rest l =
    (l.rest ≤ length l.certificate) × (l.rest ≤ l.place) × NoneWrites l.history l.certificate l.rest l.place l.hit

abbrev pub decreases-loop-rest : goal.decreases-loop-rest
decreases-loop-rest l = l.rest
