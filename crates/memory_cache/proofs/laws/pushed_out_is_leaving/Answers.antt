use Rattle.memory_cache.proofs.Leaving.{is_leaving}
use Rattle.memory_cache.proofs.laws.pushed_out_is_leaving.Goals as goal

pub returns : goal.returns
returns c = is_leaving
