-- The window that was found for the option, or none.
use Rattle.std.proofs.Common.{◌∙◌, ap, codes, option_map, Some, None, refl}
use Rattle.clap.specs.Words.{found_of}
use Rattle.command_line.specs.CommandLine.{window_given}
use Rattle.command_line.proofs.FoundLaws.{found_text}
use Rattle.command_line.proofs.asked_file.window_of.Goals as goal

pub returns-in-Some-number_to : goal.returns-in-Some-number_to
returns-in-Some-number_to c =
    ap (option_map Some) c.in-Some-number_to.ensures
    ∙ ap window_given (found_text (found_of c.args.found.now) (codes "window") (codes "window") (Some c.in-Some.text.now) refl c.in-Some.ensures)

pub returns-in-None-number_to : goal.returns-in-None-number_to
returns-in-None-number_to c =
    ap (option_map Some) c.in-None-number_to.ensures
    ∙ ap window_given (found_text (found_of c.args.found.now) (codes "window") (codes "window") (Some c.in-Some.text.now) refl c.in-Some.ensures)

pub returns-in-None : goal.returns-in-None
returns-in-None c = ap window_given (found_text (found_of c.args.found.now) (codes "window") (codes "window") None refl c.in-None.ensures)
