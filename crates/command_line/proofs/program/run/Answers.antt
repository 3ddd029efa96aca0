-- One option more for one setting more, and after them those of the folder and of the trace, and the flag.
use Rattle.std.proofs.Common.{◌≡◌, ◌∙◌, ap, ap₂, codes, fold, sym, take}
use Rattle.std.proofs.lemmas.List.{take_all}
use Rattle.std.proofs.lemmas.List.Sums.{fold_more}
use Rattle.std.proofs.lemmas.Result.{IfOk-weaker}
use Rattle.clap.specs.Words.{app_of, new_app, with_rule}
use Rattle.load.specs.declared.setting.Setting.TheVariants.{Lanes}
use Rattle.load.specs.Settings.{settings}
use Rattle.command_line.specs.CommandLine.{device_rule, trace_rule, with_option}
use Rattle.command_line.proofs.program.run.Goals as goal

pub loop-setting-init : goal.loop-setting-init
loop-setting-init c = c.command-run.ensures

pub loop-setting-preserved : goal.loop-setting-preserved
loop-setting-preserved c =
    c.in_ok-run.ensures.shape c.option.ensures.local
    ∙ ap₂ with_rule c.loop-setting.invariant c.option.ensures.rule
    ∙ sym (fold_more with_option (new_app (codes "run")) settings c.loop-setting.setting-index Lanes c.loop-setting-test.true)

pub returns : goal.returns
returns c =
    let all : take c.loop-setting.setting-index settings ≡ settings = take_all c.loop-setting.setting-index settings c.loop-setting-test.false in
    let options : app_of c.loop-setting.run ≡ fold with_option (new_app (codes "run")) settings =
    c.loop-setting.invariant ∙ ap (fold with_option (new_app (codes "run"))) all in
    let folder : app_of c.in_ok-over_files.over_files ≡ with_rule (fold with_option (new_app (codes "run")) settings) device_rule =
    c.in_ok-over_files.ensures.shape c.device.ensures.local ∙ ap₂ with_rule options c.device.ensures.rule in
    let traced : app_of c.in_ok-traced.traced ≡ with_rule (with_rule (fold with_option (new_app (codes "run")) settings) device_rule) trace_rule =
    c.in_ok-traced.ensures.shape c.trace.ensures.local ∙ ap₂ with_rule folder c.trace.ensures.rule in
    IfOk-weaker c.arg-4.result _ _ (λ r h. h.shape c.json.ensures.local ∙ ap₂ with_rule traced c.json.ensures.rule) c.arg-4.ensures
