-- What each step of the builder makes of the command.
use Rattle.std.proofs.Common.{◌≡◌, ◌∙◌, ap₂, rules, refl}
use Rattle.std.proofs.lemmas.Result.{IfOk-weaker}
use Rattle.clap.specs.Words.{app_of, with_subcommand}
use Rattle.command_line.specs.CommandLine.{program_top, script_command}
use Rattle.command_line.proofs.CommandLaws.{local, top}
use Rattle.command_line.proofs.program.with_script.Goals as goal

pub returns : goal.returns
returns c =
    let top_is : app_of c.subcommand_required.result ≡ program_top = search rules in
    IfOk-weaker c.subcommand.result _ _ (λ r h. h.shape (local _ script_command c.script.ensures refl) ∙ ap₂ with_subcommand top_is (top c.script.ensures)) c.subcommand.ensures
