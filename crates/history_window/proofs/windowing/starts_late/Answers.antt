use Rattle.std.proofs.Common.{◌≡◌, true, false}
use Rattle.std.proofs.lemmas.Bool.{le-leb, leb-true}
use Rattle.history_window.proofs.CutLemmas.{late_enough}
use Rattle.history_window.proofs.windowing.starts_late.Goals as goal

pub returns-in-Some : goal.returns-in-Some
returns-in-Some c = (
  λ test. record { start = c.in-Some.start; late = c.in-Some.ensures.0; enough = leb-true c.args.stamp c.in-Some.start test },
  λ late. le-leb c.args.stamp c.in-Some.start (late_enough c.args.tables.now.codes.now c.args.code.now c.args.stamp c.in-Some.start c.in-Some.ensures.1 late),
)

pub returns-in-None : goal.returns-in-None
returns-in-None c = (λ test. (let no' : false ≡ true = test in cc), λ late. absurd (c.in-None.ensures late.start late.late))
