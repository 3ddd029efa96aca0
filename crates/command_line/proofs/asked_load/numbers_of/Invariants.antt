-- The numbers so far are those of the settings so far.
use Rattle.std.proofs.Common.{◌≡◌, Some, length, map, take}
use Rattle.clap.specs.Words.{found_of, rows_of}
use Rattle.command_line.specs.CommandLine.{number_found}
use Rattle.command_line.proofs.asked_load.numbers_of.Given as goal

abbrev pub invariant-loop-place : goal.invariant-loop-place
invariant-loop-place g l = (length l.numbers ≡ length l.settings) × (map (number_found (rows_of (found_of l.found))) (take l.place l.settings) ≡ map Some (take l.place l.numbers))
