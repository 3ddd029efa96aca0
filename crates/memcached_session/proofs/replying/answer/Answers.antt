-- A number has few digits.
use Rattle.std.proofs.Common.{rules, arith}
use Rattle.memcached_text.proofs.public_laws.AnswerLengths.{number_line_few}
use Rattle.memcached_session.proofs.replying.answer.Goals as goal

pub returns-in-Ok-Number-clause-few : goal.returns-in-Ok-Number-clause-few
returns-in-Ok-Number-clause-few c = let few = number_line_few c.in-Ok-Number.number (search rules) in omega (arith, few)
