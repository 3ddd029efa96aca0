-- The reason that is told is that of the rejection.
use Rattle.judging_tests.proofs.RowLaws.{reason_told}
use Rattle.judging_tests.proofs.tests.commands.rows.a_rejected_text_has_the_lines_of_its_reason.Goals as goal

pub returns-in-Ok : goal.returns-in-Ok
returns-in-Ok g c = λ rejection is. reason_told _ _ rejection _ _ _ is c.in-Ok.ensures.ok
