use Rattle.entry_pool.specs.Linked.{chains_of}
use Rattle.entry_pool.proofs.LinkLaws.{free-set}
use Rattle.entry_pool.proofs.links.Links.set_free.Goals as goal

pub returns-clause-chains : goal.returns-clause-chains
unfolding chains_of
returns-clause-chains c =
    let l = c.args.self.now in
    free-set l.nodes.items l.heads.items l.newest l.oldest l.free 0 c.args.to
