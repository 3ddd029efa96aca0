-- The number that was found for the option, or none.
use Rattle.std.proofs.Common.{◌∙◌, ap, Some, None, refl}
use Rattle.clap.specs.Words.{found_of}
use Rattle.command_line.specs.CommandLine.{number_given}
use Rattle.command_line.proofs.FoundLaws.{found_text}
use Rattle.command_line.proofs.asked_file.number_of.Goals as goal

pub returns-in-Some : goal.returns-in-Some
returns-in-Some c =
    c.number_to.ensures ∙ ap (number_given c.args.most) (found_text (found_of c.args.found.now) c.args.option.now c.args.option.now (Some c.in-Some.text.now) refl c.in-Some.ensures)

pub returns-in-None : goal.returns-in-None
returns-in-None c = ap (number_given c.args.most) (found_text (found_of c.args.found.now) c.args.option.now c.args.option.now None refl c.in-None.ensures)
