-- The page has the names of the text's callers, and tells what was found.
use Rattle.std.proofs.Common.{refl}
use Rattle.judge_run.proofs.paging.page_of.Goals as goal

pub returns-in-Ok : goal.returns-in-Ok
returns-in-Ok g c = rw (c.in-Ok.ensures, c.deref.ensures.value, c.names.ensures, c.own_in-recorded.ensures, c.as_str.ensures.value, c.in_ok-report.ensures) refl
