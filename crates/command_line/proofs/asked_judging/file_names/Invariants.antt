-- The names so far are those of the files so far.
use Rattle.std.proofs.Common.{◌≡◌, List, ℕ, Bor, map, take}
use Rattle.command_line.proofs.asked_judging.file_names.Given as goal

abbrev pub invariant-loop-file : goal.invariant-loop-file
invariant-loop-file l = l.names.items ≡ map (λ (f : Bor (List ℕ)). f.now) (take l.file-index l.files)
