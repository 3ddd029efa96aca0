-- What was found for the files.
use Rattle.std.proofs.Common.{◌∙◌, codes, IsSome, Option, subst}
use Rattle.clap.specs.Words.{found_of, rows_of}
use Rattle.clap.proofs.WalkLemmas.{raw_values-rows}
use Rattle.command_line.specs.CommandLine.{Wanted}
use Rattle.command_line.proofs.AskedFiles.{no_judging, of_files}
use Rattle.command_line.proofs.asked_judging.judging_line.Goals as goal

pub returns-in_default-clause-taken : goal.returns-in_default-clause-taken
returns-in_default-clause-taken c = λ some.
    absurd (no_judging (rows_of (found_of c.args.found.now)) c.args.at_least c.args.skew c.args.share c.args.window (c.in_default.ensures ∙ raw_values-rows (found_of c.args.found.now) (codes "FILE")) some)

pub returns-in-Ok-clause-named : goal.returns-in-Ok-clause-named
returns-in-Ok-clause-named c =
    of_files (rows_of (found_of c.args.found.now)) c.args.at_least c.args.skew c.args.share c.args.window _ (c.in-Some.ensures ∙ raw_values-rows (found_of c.args.found.now) (codes "FILE"))
    ∙ c.in-Ok.ensures.named

pub returns-in-Err-clause-taken : goal.returns-in-Err-clause-taken
returns-in-Err-clause-taken c = λ some.
    c.in-Err.ensures.taken (subst (λ (wanted : Option Wanted). IsSome wanted) (of_files (rows_of (found_of c.args.found.now)) c.args.at_least c.args.skew c.args.share c.args.window _ (c.in-Some.ensures ∙ raw_values-rows (found_of c.args.found.now) (codes "FILE"))) some)
