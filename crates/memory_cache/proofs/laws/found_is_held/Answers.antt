use Rattle.memory_cache.proofs.KeepingLaws.{found_is}
use Rattle.memory_cache.proofs.laws.found_is_held.Goals as goal

pub returns : goal.returns
returns c = λ key value list found. found_is key value list.pairs found
