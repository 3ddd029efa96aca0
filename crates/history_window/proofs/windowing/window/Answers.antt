use Rattle.std.proofs.Common.{length, sym, ap, subst, arith}
use Rattle.history_window.specs.Codes.{AreCodes, AreSound}
use Rattle.history_window.proofs.MatchLemmas.{are_sound}
use Rattle.history_window.proofs.WindowLemmas.{same_window}
use Rattle.history_window.proofs.windowing.window.Goals as goal

pub window_of-requires-clause-few : goal.window_of-requires-clause-few
window_of-requires-clause-few g c = let count = c.in_ok-codes.ensures.count in let same = ap length c.as_slice.ensures.value in omega arith

pub window_of-requires-clause-sound : goal.window_of-requires-clause-sound
window_of-requires-clause-sound g c = subst (λ codes. AreSound codes) (sym c.as_slice.ensures.value) (are_sound c.args.history.now c.in_ok-codes.codes.items c.in_ok-codes.ensures c.requires)

pub returns-in-Ok : goal.returns-in-Ok
returns-in-Ok g c = same_window c.args.history.now c.as_slice.result.now (subst (λ codes. AreCodes c.args.history.now codes) (sym c.as_slice.ensures.value) c.in_ok-codes.ensures) c.requires c.args.bound c.in-Ok.kept.items c.in-Ok.ensures
