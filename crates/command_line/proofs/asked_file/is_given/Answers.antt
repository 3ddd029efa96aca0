-- The option was found, or it was not.
use Rattle.std.proofs.Common.{ap, Some, None, is_some, refl}
use Rattle.clap.specs.Words.{found_of}
use Rattle.command_line.proofs.FoundLaws.{found_text}
use Rattle.command_line.proofs.asked_file.is_given.Goals as goal

pub returns-in-Some : goal.returns-in-Some
returns-in-Some c = ap is_some (found_text (found_of c.args.found.now) c.args.option.now c.args.option.now (Some c.in-Some.field-0.now) refl c.in-Some.ensures)

pub returns-in-None : goal.returns-in-None
returns-in-None c = ap is_some (found_text (found_of c.args.found.now) c.args.option.now c.args.option.now None refl c.in-None.ensures)
