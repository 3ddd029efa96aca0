-- The subcommands, group by group.
use Rattle.std.proofs.Common.{◌∙◌, ap}
use Rattle.command_line.specs.CommandLine.{with_judging, with_loads}
use Rattle.command_line.proofs.program.program.Goals as goal

pub returns-in-Ok : goal.returns-in-Ok
returns-in-Ok c = c.in-Ok.ensures ∙ ap with_loads (c.in_ok-kangaroo-2.ensures ∙ ap with_judging c.in_ok-kangaroo.ensures)
