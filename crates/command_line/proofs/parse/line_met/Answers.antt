-- What was met is what the parse names.
use Rattle.std.proofs.Common.{◌≡◌, ◌∙◌, IsSome, List, None, Option, Some, ap, option_and_then, option_map, subst}
use Rattle.clap.specs.Words.{Row, Text, found_of, rows_of}
use Rattle.command_line.specs.CommandLine.{wanted_by}
use Rattle.command_line.proofs.parse.line_met.Goals as goal

met_is : {X : Type 0} (f : X → Text) (g : X → List Row) (met : Option X) (name : Text) (rows : List Row) → Some name ≡ option_map f met → Some rows ≡ option_map (λ (p : Text × List Row). p.1) (option_map {U = Text × List Row} (λ b. (f b, g b)) met) → option_map {U = Text × List Row} (λ b. (f b, g b)) met ≡ Some (name, rows)
met_is f g None name rows is_name is_rows = absurd cc
met_is f g (Some b) name rows is_name is_rows = cc

pub returns-in-Ok-clause-named : goal.returns-in-Ok-clause-named
returns-in-Ok-clause-named c =
    ap (option_and_then wanted_by) (met_is _ _ _ c.in-Some.name.now (rows_of (found_of c.in-Some.found.now)) c.in-Some.ensures.name c.in-Some.ensures.rows) ∙ c.in-Ok.ensures.named

pub returns-in-Err-clause-taken : goal.returns-in-Err-clause-taken
returns-in-Err-clause-taken c = λ some.
    c.in-Err.ensures.taken (subst IsSome (ap (option_and_then wanted_by) (met_is _ _ _ c.in-Some.name.now (rows_of (found_of c.in-Some.found.now)) c.in-Some.ensures.name c.in-Some.ensures.rows)) some)
