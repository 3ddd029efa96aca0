use Rattle.std.proofs.Common.{◌≡◌, true, false}
use Rattle.std.proofs.lemmas.Bool.{le-leb, leb-true}
use Rattle.history_window.proofs.PeakLemmas.{covered_from, covered_to, never_covered}
use Rattle.history_window.proofs.peaks.Peaks.covers.Goals as goal

pub returns-in-Some : goal.returns-in-Some
returns-in-Some c = (
  λ test. covered_to c.args.self.now.items.items c.args.number c.in-Some.top c.in-Some.ensures.0 (leb-true c.args.number c.in-Some.top test),
  λ covered. le-leb c.args.number c.in-Some.top (covered_from c.args.self.now.items.items c.args.number c.in-Some.top c.in-Some.ensures.1 covered),
)

pub returns-in-None : goal.returns-in-None
returns-in-None c = (λ test. (let no' : false ≡ true = test in cc), λ covered. absurd (never_covered c.args.self.now.items.items c.args.number c.in-None.ensures covered))
