use Rattle.script_words.proofs.FirstLine.{all_other, first_at}
use Rattle.script_words.proofs.read_ahead.line_len.Goals as goal

pub returns-in-Some-clause-value : goal.returns-in-Some-clause-value
returns-in-Some-clause-value c = first_at c.args.bytes.now c.in-Some.len c.in-Some.ensures.0 c.in-Some.ensures.1

pub returns-in-None-clause-value : goal.returns-in-None-clause-value
returns-in-None-clause-value c = all_other c.args.bytes.now c.in-None.ensures
