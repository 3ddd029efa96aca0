use Rattle.std.proofs.Common.{refl}
use Rattle.entry_pool.specs.Linked.{chains_of}
use Rattle.entry_pool.proofs.links.Links.first_free.Goals as goal

pub returns : goal.returns
unfolding chains_of
returns c = refl
