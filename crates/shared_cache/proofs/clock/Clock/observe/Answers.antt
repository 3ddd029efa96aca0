use Rattle.shared_cache.proofs.Keeps.{raises}
use Rattle.std.proofs.Common.{rules, arith}
use Rattle.shared_cache.proofs.clock.Clock.observe.Goals as goal

pub fetch_max-seat-inside-requires : goal.fetch_max-seat-inside-requires
fetch_max-seat-inside-requires c = (search rules, let h = c.self.invariant in omega arith, raises _ _ _ _ c.requires.stamp)
