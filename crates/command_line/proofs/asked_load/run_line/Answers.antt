-- The load with the numbers that were found, or what of it is missing.
use Rattle.std.proofs.Common.{◌∙◌, codes, IsSome, Some, None, refl, subst}
use Rattle.clap.specs.Words.{found_of, rows_of}
use Rattle.command_line.specs.CommandLine.{Wanted}
use Rattle.load.specs.Settings.{settings}
use Rattle.command_line.proofs.FoundLaws.{admitted, asks, found_text, no_numbers, no_trace}
use Rattle.command_line.proofs.asked_load.run_line.Goals as goal

pub load_with-requires : goal.load_with-requires
load_with-requires c = admitted settings (rows_of (found_of c.args.found.now)) c.in-Ok.numbers c.in-Ok.ensures.numbers

pub returns-in_ok-file-in-Ok-clause-named : goal.returns-in_ok-file-in-Ok-clause-named
returns-in_ok-file-in-Ok-clause-named c =
    asks (rows_of (found_of c.args.found.now)) c.load_with.result c.in-Ok.numbers c.is_on-json.result c.in_ok-folder-in-Ok.folder c.in-Some.trace.now c.in-Ok.ensures.numbers c.load_with.ensures.numbers c.load_with.ensures.json c.is_on-json.ensures c.load_with.ensures.device c.in_ok-folder-in-Ok.ensures (c.load_with.ensures.trace ∙ c.in_ok-file-in-Ok.ensures) (found_text (found_of c.args.found.now) (codes "trace") (codes "trace") (Some c.in-Some.trace.now) refl c.in-Some.ensures)

pub returns-in_default-clause-taken : goal.returns-in_default-clause-taken
returns-in_default-clause-taken c = λ some.
    let none = no_trace (rows_of (found_of c.args.found.now)) (found_text (found_of c.args.found.now) (codes "trace") (codes "trace") None refl c.in_default.ensures) in
    let bad : IsSome {T = Wanted} None = subst IsSome none some in
    absurd cc

pub returns-in-Err-clause-taken : goal.returns-in-Err-clause-taken
returns-in-Err-clause-taken c = λ some.
    let none = no_numbers (rows_of (found_of c.args.found.now)) c.in-Err.ensures.lacks in
    let bad : IsSome {T = Wanted} None = subst IsSome none some in
    absurd cc
