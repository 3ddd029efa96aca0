-- So many of the files so far are the standard input.
use Rattle.std.proofs.Common.{◌≡◌, ◌≤◌, List, ℕ, Bor, count_by, take}
use Rattle.command_line.specs.CommandLine.{is_input}
use Rattle.command_line.proofs.asked_judging.inputs_among.Given as goal

abbrev pub invariant-loop-file : goal.invariant-loop-file
invariant-loop-file l = (l.count ≤ l.file-index) × (l.count ≡ count_by (λ (f : Bor (List ℕ)). is_input f.now) (take l.file-index l.files))
