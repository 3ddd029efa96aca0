use Rattle.std.proofs.Common.{◌≡◌, ◌^◌, arith}
use Rattle.std.proofs.lemmas.Grind.{common_steps}
use Rattle.script_words.specs.Words.{time_of}
use Rattle.script_words.proofs.Numerals.{number_text}
use Rattle.script_words.proofs.words.time.Goals as goal

pub returns-clause-digits : goal.returns-clause-digits
returns-clause-digits c =
    let is : c.ok.result ≡ time_of c.args.word.now = grind (arith, common_steps) in
    rw is (number_text (2 ^ 64) c.args.word.now (omega arith))
