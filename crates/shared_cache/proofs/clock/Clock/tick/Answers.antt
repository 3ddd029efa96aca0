use Rattle.shared_cache.proofs.Keeps.{looks, raises}
use Rattle.std.proofs.Common.{rules, arith}
use Rattle.shared_cache.proofs.clock.Clock.tick.Goals as goal

pub load-found-requires : goal.load-found-requires
load-found-requires c = (search rules, let h = c.self.invariant in omega arith, looks _ _ _)

pub fetch_max-requires : goal.fetch_max-requires
fetch_max-requires c = (search rules, let h = c.self.invariant in omega arith, raises _ _ _ _ (omega arith))
