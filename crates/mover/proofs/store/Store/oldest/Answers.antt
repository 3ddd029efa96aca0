use Rattle.std.proofs.Common.{◌≡◌, ℕ, List, subst}
use Rattle.klog.specs.Moves.{TellsOldest}
use Rattle.mover.specs.Flight.{sets_in_flight}
use Rattle.mover.specs.Store.{StoreState}
use Rattle.mover.specs.Oldest.{oldest_in}
use Rattle.mover.proofs.Firsts.{oldest_is}
use Rattle.mover.proofs.store.Store.oldest.Goals as goal

pub returns-clause-is : goal.returns-clause-is
returns-clause-is g c =
    let s = c.self.inside in
    let passed : List ℕ = sets_in_flight s.flights in
    let told : oldest_in passed s.log ≡ c.oldest.result = oldest_is passed s.log c.oldest.result c.len-live.ensures.apart (subst (λ ns. TellsOldest ns s.log c.oldest.result) c.sets.ensures c.oldest.ensures.tells) in
    subst (λ (x : StoreState g.row.D.Denot). oldest_in (sets_in_flight x.flights) x.log ≡ c.oldest.result) c.self.view_is told
