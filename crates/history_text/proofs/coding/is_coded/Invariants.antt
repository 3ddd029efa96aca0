use Rattle.std.proofs.Common.{◌≡◌, drop}
use Rattle.history_text.specs.Coding.{is_coded}
use Rattle.history_text.proofs.coding.is_coded.Given as goal

-- what was passed is well coded
abbrev pub invariant-loop-at : goal.invariant-loop-at
invariant-loop-at l = is_coded l.word ≡ is_coded (drop l.at l.word)
