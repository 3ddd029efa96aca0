use Rattle.shared_cache.proofs.Keeps.{twins}
use Rattle.std.proofs.Common.{rules}
use Rattle.shared_cache.proofs.clock.Clock.new.Goals as goal

pub split_seat-twin-requires : goal.split_seat-twin-requires
split_seat-twin-requires c = (search rules, search rules, twins _ _)
