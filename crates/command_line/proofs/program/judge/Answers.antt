-- Its files, and after them group by group what else it takes.
use Rattle.std.proofs.Common.{◌≡◌, ◌∙◌, ap, ap₂, codes}
use Rattle.clap.specs.Words.{app_of, new_app, with_rule}
use Rattle.command_line.specs.CommandLine.{files_rule, with_history, with_listing, with_reading, with_scope}
use Rattle.command_line.proofs.program.judge.Goals as goal

pub returns-in-Ok : goal.returns-in-Ok
returns-in-Ok c =
    let named : app_of c.in_ok-judge.judge ≡ with_rule (new_app (codes "judge")) files_rule =
    c.in_ok-judge.ensures.shape c.files.ensures.local ∙ ap₂ with_rule c.command-judge.ensures c.files.ensures.rule in
    c.in-Ok.ensures
    ∙ ap with_reading (c.in_ok-scoped.ensures ∙ ap with_scope (c.in_ok-listed.ensures ∙ ap with_listing (c.in_ok-judge-2.ensures ∙ ap with_history named)))
