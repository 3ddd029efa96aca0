-- The copies so far are those of the names so far.
use Rattle.std.proofs.Common.{◌≡◌, take}
use Rattle.history_picture.specs.Names.{names_of}
use Rattle.judge_run.proofs.names.copy_names.Given as goal

abbrev pub invariant-loop-name : goal.invariant-loop-name
invariant-loop-name l = names_of l.copy.items ≡ names_of (take l.name-index l.names)
