-- The load with the numbers and the sizes that were found, or what of them is missing.
use Rattle.std.proofs.Common.{IsSome, None, subst, sym}
use Rattle.clap.specs.Words.{found_of, rows_of}
use Rattle.load.specs.Settings.{served_settings}
use Rattle.command_line.specs.CommandLine.{Wanted}
use Rattle.command_line.proofs.FoundLaws.{admitted, no_determined, no_served_sizes}
use Rattle.command_line.proofs.asked_load.serve_line.Goals as goal

pub served_with-requires : goal.served_with-requires
served_with-requires c = admitted served_settings (rows_of (found_of c.args.found.now)) c.in-Ok.numbers c.in-Ok.ensures.numbers

pub returns-in-Err-sizes_of-clause-taken : goal.returns-in-Err-sizes_of-clause-taken
returns-in-Err-sizes_of-clause-taken c = λ some.
    let none = no_served_sizes (rows_of (found_of c.args.found.now)) c.in-Err-sizes_of.ensures.lacks in
    let bad : IsSome {T = Wanted} None = subst IsSome none some in
    absurd cc

pub returns-in-Some-clause-taken : goal.returns-in-Some-clause-taken
returns-in-Some-clause-taken c = λ some.
    let none = no_determined (rows_of (found_of c.args.found.now)) (sym c.in-Some.ensures.given) in
    let bad : IsSome {T = Wanted} None = subst IsSome none some in
    absurd cc
