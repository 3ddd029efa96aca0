-- One subcommand after the other.
use Rattle.std.proofs.Common.{◌≡◌, ◌∙◌, ap, ap₂, refl}
use Rattle.std.proofs.lemmas.Result.{IfOk-weaker}
use Rattle.clap.specs.Words.{Shape, app_of, with_subcommand}
use Rattle.command_line.specs.CommandLine.{check_command, judge_command, show_command}
use Rattle.command_line.proofs.CommandLaws.{local, top}
use Rattle.command_line.proofs.program.with_judging.Goals as goal

pub returns : goal.returns
returns c =
    let one : app_of c.in_ok-kangaroo.kangaroo ≡ with_subcommand (app_of c.args.kangaroo) check_command.top =
    c.in_ok-kangaroo.ensures.shape (local _ check_command c.in_ok-check.ensures refl) ∙ ap (λ (t : Shape). with_subcommand (app_of c.args.kangaroo) t) (top c.in_ok-check.ensures) in
    let two : app_of c.in_ok-kangaroo-2.kangaroo ≡ with_subcommand (with_subcommand (app_of c.args.kangaroo) check_command.top) judge_command.top =
    c.in_ok-kangaroo-2.ensures.shape (local _ judge_command c.in_ok-judge.ensures refl) ∙ ap₂ with_subcommand one (top c.in_ok-judge.ensures) in
    IfOk-weaker c.subcommand-3.result _ _ (λ r h. h.shape (local _ show_command c.in_ok-show.ensures refl) ∙ ap₂ with_subcommand two (top c.in_ok-show.ensures)) c.subcommand-3.ensures
