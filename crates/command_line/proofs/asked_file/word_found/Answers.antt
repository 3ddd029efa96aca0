-- The word that was found for the option, or none.
use Rattle.std.proofs.Common.{◌∙◌, ap, Some, None, refl}
use Rattle.clap.specs.Words.{found_of}
use Rattle.command_line.proofs.FoundLaws.{found_text}
use Rattle.command_line.proofs.asked_file.word_found.Goals as goal

pub returns-in_ok-word-in-Some : goal.returns-in_ok-word-in-Some
returns-in_ok-word-in-Some c =
    ap Some c.in_ok-word-in-Some.ensures.ok
    ∙ found_text (found_of c.args.found.now) c.args.option.now c.args.option.now (Some c.in-Some.word.now) refl c.in-Some.ensures

pub returns-in-None : goal.returns-in-None
returns-in-None c = found_text (found_of c.args.found.now) c.args.option.now c.args.option.now None refl c.in-None.ensures
