-- The bytes are the word over and over exactly if the rest is.
use Rattle.std.proofs.Common.{◌↔◌, length}
use Rattle.serve_load.proofs.Repeating.{IsRepeated}
use Rattle.serve_load.proofs.right.repeats.Given as goal

abbrev pub invariant-loop-rest : goal.invariant-loop-rest
invariant-loop-rest l = IsRepeated l.word l.bytes ↔ IsRepeated l.word l.rest

abbrev pub decreases-loop-rest : goal.decreases-loop-rest
decreases-loop-rest l = length l.rest
