use Rattle.std.proofs.Common.{◌≡◌, arith}
use Rattle.entry_pool.specs.Chains.{none}
use Rattle.entry_pool.specs.Linked.{chains_of}
use Rattle.entry_pool.proofs.LinkLaws.{node-set}
use Rattle.entry_pool.proofs.links.Links.set_node.Goals as goal

pub returns-clause-chains : goal.returns-clause-chains
unfolding chains_of
returns-clause-chains c =
    let l = c.args.self.now in
    let named : c.args.at ≡ none → ⊥ = λ e. omega (arith, e) in
    node-set l.nodes.items l.heads.items l.newest l.oldest l.free c.args.at c.new.result c.args.node c.requires.at named c.new.ensures
