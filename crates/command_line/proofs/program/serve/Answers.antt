-- One option more for one setting more, and after them those of the sizes and of the folder, and the flags.
use Rattle.std.proofs.Common.{◌≡◌, ◌∙◌, ap, ap₂, codes, fold, sym, take}
use Rattle.std.proofs.lemmas.List.{take_all}
use Rattle.std.proofs.lemmas.List.Sums.{fold_more}
use Rattle.std.proofs.lemmas.Result.{IfOk-weaker}
use Rattle.clap.specs.Words.{app_of, new_app, with_rule}
use Rattle.load.specs.declared.setting.Setting.TheVariants.{Lanes}
use Rattle.load.specs.declared.size_setting.SizeSetting.TheVariants.{MemoryBytes, Size}
use Rattle.load.specs.Settings.{served_settings}
use Rattle.command_line.specs.CommandLine.{device_rule, size_rule, with_option, zipf_rule}
use Rattle.command_line.proofs.program.serve.Goals as goal

pub loop-setting-init : goal.loop-setting-init
loop-setting-init c = c.command-serve.ensures

pub loop-setting-preserved : goal.loop-setting-preserved
loop-setting-preserved c =
    c.in_ok-serve.ensures.shape c.option.ensures.local
    ∙ ap₂ with_rule c.loop-setting.invariant c.option.ensures.rule
    ∙ sym (fold_more with_option (new_app (codes "serve-load")) served_settings c.loop-setting.setting-index Lanes c.loop-setting-test.true)

pub returns : goal.returns
returns c =
    let all : take c.loop-setting.setting-index served_settings ≡ served_settings = take_all c.loop-setting.setting-index served_settings c.loop-setting-test.false in
    let options : app_of c.loop-setting.serve ≡ fold with_option (new_app (codes "serve-load")) served_settings =
    c.loop-setting.invariant ∙ ap (fold with_option (new_app (codes "serve-load"))) all in
    let one : app_of c.in_ok-sized.sized ≡ with_rule (fold with_option (new_app (codes "serve-load")) served_settings) (size_rule Size) =
    c.in_ok-sized.ensures.shape c.size.ensures.local ∙ ap₂ with_rule options c.size.ensures.rule in
    let two : app_of c.in_ok-sized-2.sized ≡ with_rule (with_rule (fold with_option (new_app (codes "serve-load")) served_settings) (size_rule Size)) (size_rule MemoryBytes) =
    c.in_ok-sized-2.ensures.shape c.size-2.ensures.local ∙ ap₂ with_rule one c.size-2.ensures.rule in
    let drawn : app_of c.in_ok-drawn.drawn ≡ with_rule (with_rule (with_rule (fold with_option (new_app (codes "serve-load")) served_settings) (size_rule Size)) (size_rule MemoryBytes)) zipf_rule =
    c.in_ok-drawn.ensures.shape c.zipf.ensures.local ∙ ap₂ with_rule two c.zipf.ensures.rule in
    let folder : app_of c.in_ok-over_files.over_files ≡ with_rule (with_rule (with_rule (with_rule (fold with_option (new_app (codes "serve-load")) served_settings) (size_rule Size)) (size_rule MemoryBytes)) zipf_rule) device_rule =
    c.in_ok-over_files.ensures.shape c.device.ensures.local ∙ ap₂ with_rule drawn c.device.ensures.rule in
    IfOk-weaker c.arg-6.result _ _ (λ r h. h.shape c.json.ensures.local ∙ ap₂ with_rule folder c.json.ensures.rule) c.arg-6.ensures
