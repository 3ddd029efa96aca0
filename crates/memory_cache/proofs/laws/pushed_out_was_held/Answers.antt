use Rattle.memory_cache.proofs.KeepingLaws.{pushed_held}
use Rattle.memory_cache.proofs.laws.pushed_out_was_held.Goals as goal

pub returns : goal.returns
returns c = pushed_held
