-- One subcommand after the other.
use Rattle.std.proofs.Common.{◌≡◌, ◌∙◌, ap, ap₂, refl}
use Rattle.std.proofs.lemmas.Result.{IfOk-weaker}
use Rattle.clap.specs.Words.{Shape, app_of, with_subcommand}
use Rattle.command_line.specs.CommandLine.{run_command, serve_command}
use Rattle.command_line.proofs.CommandLaws.{local, top}
use Rattle.command_line.proofs.program.with_loads.Goals as goal

pub returns : goal.returns
returns c =
    let one : app_of c.in_ok-kangaroo.kangaroo ≡ with_subcommand (app_of c.args.kangaroo) run_command.top =
    c.in_ok-kangaroo.ensures.shape (local _ run_command c.in_ok-run.ensures refl) ∙ ap (λ (t : Shape). with_subcommand (app_of c.args.kangaroo) t) (top c.in_ok-run.ensures) in
    IfOk-weaker c.subcommand-2.result _ _ (λ r h. h.shape (local _ serve_command c.in_ok-serve.ensures refl) ∙ ap₂ with_subcommand one (top c.in_ok-serve.ensures)) c.subcommand-2.ensures
