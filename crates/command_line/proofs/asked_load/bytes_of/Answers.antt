-- The bytes of the text that was found for the size's option.
use Rattle.std.proofs.Common.{◌∙◌, Some, ap, option_map}
use Rattle.clap.specs.Words.{found_of}
use Rattle.command_line.proofs.FoundLaws.{given_bytes, no_bytes_given}
use Rattle.command_line.proofs.asked_load.bytes_of.Goals as goal

pub returns-in-Some-bytes-clause-given : goal.returns-in-Some-bytes-clause-given
returns-in-Some-bytes-clause-given c =
    given_bytes (found_of c.args.found.now) c.args.size c.name.result.now c.in-Some.text.now c.bytes.result c.name.ensures c.in-Some.ensures c.bytes.ensures ∙ ap (option_map Some) c.in-Some-bytes.is

pub returns-in-None-bytes-clause-none : goal.returns-in-None-bytes-clause-none
returns-in-None-bytes-clause-none c =
    given_bytes (found_of c.args.found.now) c.args.size c.name.result.now c.in-Some.text.now c.bytes.result c.name.ensures c.in-Some.ensures c.bytes.ensures ∙ ap (option_map Some) c.in-None-bytes.is

pub returns-in-None-clause-given : goal.returns-in-None-clause-given
returns-in-None-clause-given c = no_bytes_given (found_of c.args.found.now) c.args.size c.name.result.now c.name.ensures c.in-None.ensures
