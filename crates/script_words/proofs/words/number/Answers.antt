use Rattle.std.proofs.Common.{◌≡◌, ◌^◌, arith}
use Rattle.std.proofs.lemmas.Grind.{common_steps}
use Rattle.script_words.specs.Words.{number_of}
use Rattle.script_words.proofs.Numerals.{number_text}
use Rattle.script_words.proofs.words.number.Goals as goal

pub returns-clause-digits : goal.returns-clause-digits
returns-clause-digits c =
    let is : c.ok.result ≡ number_of c.args.word.now = grind (arith, common_steps) in
    rw is (number_text (2 ^ 32) c.args.word.now (omega arith))
