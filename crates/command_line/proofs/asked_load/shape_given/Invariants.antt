-- None of the settings so far is given.
use Rattle.std.proofs.Common.{◌≡◌, None, take}
use Rattle.std.specs.List.{find}
use Rattle.clap.specs.Words.{found_of, rows_of}
use Rattle.load.specs.Settings.{shape_settings}
use Rattle.command_line.specs.CommandLine.{is_given}
use Rattle.command_line.proofs.asked_load.shape_given.Given as goal

abbrev pub invariant-loop-setting : goal.invariant-loop-setting
invariant-loop-setting l = find (is_given (rows_of (found_of l.found))) (take l.setting-index shape_settings) ≡ None
