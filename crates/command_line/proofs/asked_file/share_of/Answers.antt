-- The share that was found for the option, or all keys.
use Rattle.std.proofs.Common.{◌∙◌, ap, codes, Some, None, refl}
use Rattle.clap.specs.Words.{found_of}
use Rattle.command_line.specs.CommandLine.{share_given}
use Rattle.command_line.proofs.FoundLaws.{found_text}
use Rattle.command_line.proofs.asked_file.share_of.Goals as goal

pub returns-in-Some : goal.returns-in-Some
returns-in-Some c =
    c.share_in.ensures ∙ ap share_given (found_text (found_of c.args.found.now) (codes "keys") (codes "keys") (Some c.in-Some.text.now) refl c.in-Some.ensures)

pub returns-in-None : goal.returns-in-None
returns-in-None c = ap share_given (found_text (found_of c.args.found.now) (codes "keys") (codes "keys") None refl c.in-None.ensures)
