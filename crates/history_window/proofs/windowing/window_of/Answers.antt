use Rattle.std.proofs.Common.{length, ap, subst, arith}
use Rattle.certificate_finder.specs.Lists.{AreAllBelow}
use Rattle.history_window.specs.Cuts.{StaysAt}
use Rattle.history_window.proofs.windowing.window_of.Goals as goal

pub window_by-requires-clause-few : goal.window_by-requires-clause-few
window_by-requires-clause-few c = let same = ap length c.in_ok-tables.ensures.same in let few = c.requires.few in omega (arith, same, few)

pub returns-in-Ok : goal.returns-in-Ok
returns-in-Ok c = subst (λ b. AreAllBelow (StaysAt c.args.codes.now b) (length c.args.codes.now) c.in-Ok.kept.items) c.in_ok-cuts.ensures.bound (subst (λ xs. AreAllBelow (StaysAt xs c.in_ok-cuts.cuts.bound) (length xs) c.in-Ok.kept.items) c.in_ok-tables.ensures.same c.in-Ok.ensures)
