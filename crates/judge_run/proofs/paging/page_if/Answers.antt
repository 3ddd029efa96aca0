-- The page is made exactly if it is wanted.
use Rattle.std.proofs.Common.{◌≡◌, true, Some, ap}
use Rattle.std.proofs.lemmas.Bool.Decides.{nat_tests}
use Rattle.std.proofs.Common.{arith}
use Rattle.judge_run.proofs.paging.page_if.Goals as goal

pub returns-in-Ok : goal.returns-in-Ok
returns-in-Ok g c =
    let wanted : c.args.is_wanted ≡ true = grind (arith, nat_tests, c.if-not-is_wanted.false) in
    rw wanted (ap Some c.in-Ok.ensures)
