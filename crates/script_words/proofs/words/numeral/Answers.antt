use Rattle.std.proofs.Common.{◌∙◌, ap, Some, rules, tests, inl, inr, arith}
use Rattle.script_words.proofs.Numerals.{number_none, number_some}
use Rattle.script_words.proofs.words.numeral.Goals as goal
use Rattle.script_words.proofs.words.numeral.Goals.{then-not-is_numeral-via-then-not-is_numeral, then-not-is_numeral-via-else-not-is_numeral+then-word-gt-MAX_DIGITS}

pub returns-then-not-is_numeral : goal.returns-then-not-is_numeral
returns-then-not-is_numeral c = elim c.then-not-is_numeral.branch [
  | then-not-is_numeral-via-then-not-is_numeral w ↦ number_none c.args.word.now (inl (search rules))
  | then-not-is_numeral-via-else-not-is_numeral+then-word-gt-MAX_DIGITS w ↦
      number_none c.args.word.now (inr (omega arith))
]

pub returns : goal.returns
returns c = ap Some c.digits_value.ensures ∙ number_some c.args.word.now (search (rules, tests)) (omega arith)
