-- The number of the text that was found for the setting's option, or of its default.
use Rattle.std.proofs.Common.{◌∙◌, Some, None, ap}
use Rattle.clap.specs.Words.{found_of}
use Rattle.load.specs.Settings.{number_in}
use Rattle.command_line.proofs.FoundLaws.{found_number}
use Rattle.command_line.proofs.asked_load.number_of.Goals as goal

pub returns-in-Some : goal.returns-in-Some
returns-in-Some c = found_number (found_of c.args.found.now) c.args.setting c.name.result.now (Some c.in-Some.text.now) c.number.result c.name.ensures c.in-Some.ensures c.number.ensures

pub returns-in-None : goal.returns-in-None
returns-in-None c = found_number (found_of c.args.found.now) c.args.setting c.name.result.now None c.number-in-None.result c.name.ensures c.in-None.ensures (c.number-in-None.ensures ∙ ap (number_in c.args.setting) c.default_word.ensures)
