-- A parse of words that are taken fails only for want of memory, and words with a fault are not parsed.
use Rattle.std.proofs.Common.{◌≡◌, ◌∙◌, [], List, IsSome, Option, ap, sym, subst, true, map, refl, option_and_then}
use Rattle.clap.specs.Words.{App, HasKind, Row, Text, app_of, fault_of, is_simple, is_simple_and_free, kind_of, subcommand_of, subcommand_rows_of, takes}
use Rattle.command_line.specs.CommandLine.{program, wanted_by, wanted_by_words}
use Rattle.command_line.proofs.Refusals.{memory, of_error, of_usage}
use Rattle.command_line.proofs.parse.parse_line.Goals as goal

-- the program's command line is one of which the parse is known
simple : is_simple_and_free program ≡ true
simple = refl

simple_of : (a : App) → a ≡ program → is_simple_and_free a ≡ true
simple_of a is = subst (λ (x : App). is_simple_and_free x ≡ true) (sym is) simple

plain_of : (a : App) → a ≡ program → is_simple a ≡ true
plain_of a is = subst (λ (x : App). is_simple x ≡ true) (sym is) refl

-- words whose parse came to this subcommand ask for the same
asked : (a : App) (words : List Text) (met : Option (Text × List Row)) → a ≡ program → met ≡ subcommand_of a words → option_and_then wanted_by met ≡ wanted_by_words words
asked a words met is same = ap (option_and_then wanted_by) (same ∙ ap (λ (x : App). subcommand_of x words) is)

no_fault : (a : App) (words : List Text) → a ≡ program → fault_of a words ≡ [] → fault_of program words ≡ []
no_fault a words is none = sym (ap (λ (x : App). fault_of x words) is) ∙ none

pub returns-in_default-clause-refused : goal.returns-in_default-clause-refused
returns-in_default-clause-refused g c = memory (fault_of program (map g.S.AsStr.text c.args.words.now)) _ refl

pub returns-in-Ok-line_met-clause-named : goal.returns-in-Ok-line_met-clause-named
returns-in-Ok-line_met-clause-named g c =
    sym (asked (app_of c.in-Ok.command) (map g.S.AsStr.text c.args.words.now) (subcommand_rows_of c.in-Ok-try_get_matches_from.matches) c.in-Ok.ensures (c.in-Ok-try_get_matches_from.ensures.matches (plain_of (app_of c.in-Ok.command) c.in-Ok.ensures)).1)
    ∙ c.in-Ok-line_met.ensures.named

pub returns-in-Ok-line_met-clause-whole : goal.returns-in-Ok-line_met-clause-whole
returns-in-Ok-line_met-clause-whole g c =
    no_fault (app_of c.in-Ok.command) (map g.S.AsStr.text c.args.words.now) c.in-Ok.ensures (c.in-Ok-try_get_matches_from.ensures.kinds (simple_of (app_of c.in-Ok.command) c.in-Ok.ensures))

pub returns-in-Ok-try_get_matches_from-clause-taken : goal.returns-in-Ok-try_get_matches_from-clause-taken
returns-in-Ok-try_get_matches_from-clause-taken g c = λ taken some.
    let same = asked (app_of c.in-Ok.command) (map g.S.AsStr.text c.args.words.now) (subcommand_rows_of c.in-Ok-try_get_matches_from.matches) c.in-Ok.ensures (c.in-Ok-try_get_matches_from.ensures.matches (plain_of (app_of c.in-Ok.command) c.in-Ok.ensures)).1 in
    c.in-Err-line_met.ensures.taken (subst IsSome (sym same) some)

pub returns-in-Ok-try_get_matches_from-clause-refused : goal.returns-in-Ok-try_get_matches_from-clause-refused
returns-in-Ok-try_get_matches_from-clause-refused g c =
    of_usage (fault_of program (map g.S.AsStr.text c.args.words.now)) c.in-Err-line_met.fault
    (no_fault (app_of c.in-Ok.command) (map g.S.AsStr.text c.args.words.now) c.in-Ok.ensures (c.in-Ok-try_get_matches_from.ensures.kinds (simple_of (app_of c.in-Ok.command) c.in-Ok.ensures)))
    c.in-Err-line_met.ensures.refused

pub returns-clause-taken : goal.returns-clause-taken
returns-clause-taken g c = λ taken some.
    c.told.ensures.memory (c.in-Err.ensures.passes (subst (λ (a : App). takes a (map g.S.AsStr.text c.args.words.now) ≡ true) (sym c.in-Ok.ensures) taken))

pub returns-clause-refused : goal.returns-clause-refused
returns-clause-refused g c =
    of_error (fault_of program (map g.S.AsStr.text c.args.words.now)) (kind_of c.in-Err.error) c.told.result
    (subst (λ (a : App). HasKind (fault_of a (map g.S.AsStr.text c.args.words.now)) c.in-Err.error) c.in-Ok.ensures (c.in-Err.ensures.kinds (simple_of (app_of c.in-Ok.command) c.in-Ok.ensures)))
    c.told.ensures.memory c.told.ensures.told
