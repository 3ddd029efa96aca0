-- The word that was found for the flag, or none.
use Rattle.std.proofs.Common.{◌∙◌, ap, codes, false, Option, Some, None, refl}
use Rattle.std.specs.Option.{option_map_or}
use Rattle.std.specs.Str.{bytes_eq}
use Rattle.clap.specs.Words.{Text, found_of}
use Rattle.command_line.proofs.FoundLaws.{found_text}
use Rattle.command_line.proofs.asked_file.is_on.Goals as goal

pub returns-in-Some : goal.returns-in-Some
returns-in-Some c =
    c.eq.ensures
    ∙ ap (λ (o : Option Text). option_map_or (λ word. bytes_eq word (codes "true")) o false) (found_text (found_of c.args.found.now) c.args.flag.now c.args.flag.now (Some c.in-Some.word.now) refl c.in-Some.ensures)

pub returns-in-None : goal.returns-in-None
returns-in-None c =
    ap (λ (o : Option Text). option_map_or (λ word. bytes_eq word (codes "true")) o false) (found_text (found_of c.args.found.now) c.args.flag.now c.args.flag.now None refl c.in-None.ensures)
