use Rattle.memory_cache.proofs.KeepingLaws.{bounded_put, bounded_get, bounded_remove}
use Rattle.memory_cache.proofs.laws.memory_keeps_bounds.Goals as goal

pub returns-clause-put : goal.returns-clause-put
returns-clause-put c = bounded_put

pub returns-clause-got : goal.returns-clause-got
returns-clause-got c = bounded_get

pub returns-clause-removed : goal.returns-clause-removed
returns-clause-removed c = bounded_remove
