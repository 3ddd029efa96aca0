-- The first setting that is given, as each is looked up in its turn.
use Rattle.std.proofs.Common.{◌≡◌, ◌∙◌, ap, get_or, refl, sym, take}
use Rattle.load.specs.declared.setting.Setting.TheVariants.{Lanes}
use Rattle.std.proofs.lemmas.List.{take_all}
use Rattle.std.specs.List.{find}
use Rattle.clap.specs.Words.{found_of, rows_of}
use Rattle.load.specs.Settings.{shape_settings}
use Rattle.command_line.specs.CommandLine.{is_given}
use Rattle.command_line.proofs.FoundLaws.{find_here, find_more, found_given}
use Rattle.command_line.proofs.asked_load.shape_given.Goals as goal

pub loop-setting-init : goal.loop-setting-init
loop-setting-init c = refl

pub returns : goal.returns
returns c =
    let all : take c.loop-setting.setting-index shape_settings ≡ shape_settings = take_all c.loop-setting.setting-index shape_settings c.loop-setting-test.false in
    sym c.loop-setting.invariant ∙ ap (find (is_given (rows_of (found_of c.args.found.now)))) all

pub loop-setting-preserved : goal.loop-setting-preserved
loop-setting-preserved c =
    let given = found_given (found_of c.args.found.now) (get_or shape_settings c.loop-setting.setting-index Lanes) c.name.result.now c.get_str.result c.name.ensures c.get_str.ensures in
    find_more (is_given (rows_of (found_of c.args.found.now))) shape_settings c.loop-setting.setting-index c.loop-setting-test.true c.loop-setting.invariant (sym given ∙ sym c.is_some.ensures ∙ c.if-is_some.false)

pub returns-then-is_some : goal.returns-then-is_some
returns-then-is_some c =
    let given = found_given (found_of c.args.found.now) (get_or shape_settings c.loop-setting.setting-index Lanes) c.name.result.now c.get_str.result c.name.ensures c.get_str.ensures in
    sym (find_here (is_given (rows_of (found_of c.args.found.now))) shape_settings c.loop-setting.setting-index c.loop-setting-test.true c.loop-setting.invariant (sym given ∙ sym c.is_some.ensures ∙ c.if-is_some.true))
