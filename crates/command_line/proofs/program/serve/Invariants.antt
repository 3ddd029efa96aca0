-- The options so far are those of the served_settings so far.
use Rattle.std.proofs.Common.{◌≡◌, codes, fold, take}
use Rattle.clap.specs.Words.{app_of, new_app}
use Rattle.load.specs.Settings.{served_settings}
use Rattle.command_line.specs.CommandLine.{with_option}
use Rattle.command_line.proofs.program.serve.Given as goal

abbrev pub invariant-loop-setting : goal.invariant-loop-setting
invariant-loop-setting l = app_of l.serve ≡ fold with_option (new_app (codes "serve-load")) (take l.setting-index served_settings)
