-- The options so far are those of the settings so far.
use Rattle.std.proofs.Common.{◌≡◌, codes, fold, take}
use Rattle.clap.specs.Words.{app_of, new_app}
use Rattle.load.specs.Settings.{settings}
use Rattle.command_line.specs.CommandLine.{with_option}
use Rattle.command_line.proofs.program.run.Given as goal

abbrev pub invariant-loop-setting : goal.invariant-loop-setting
invariant-loop-setting l = app_of l.run ≡ fold with_option (new_app (codes "run")) (take l.setting-index settings)
