-- The head's link, or the node's.
use Rattle.std.proofs.Common.{◌≡◌, ◌<◌, length, ap, ◌∙◌, arith}
use Rattle.std.proofs.lemmas.List.{get_or_read}
use Rattle.entry_pool.specs.declared.node.Node.{Node}
use Rattle.entry_pool.specs.Chains.{none}
use Rattle.entry_pool.specs.Linked.{chains_of, blank, node_at}
use Rattle.entry_pool.proofs.LinkLaws.{from-head, from-node}
use Rattle.entry_pool.proofs.links.Links.newer.Goals as goal

pub returns-then-at-eq-NONE : goal.returns-then-at-eq-NONE
unfolding chains_of
returns-then-at-eq-NONE c =
    from-head c.args.self.now.oldest (λ j. (node_at c.args.self.now.nodes.items j).newer) c.args.at (omega arith)

pub returns : goal.returns
unfolding chains_of
returns c =
    let named : c.args.at ≡ none → ⊥ = λ e. omega (arith, e) in
    let lt : c.args.at < length c.args.self.now.nodes.items = omega arith in
    c.newer.ensures
    ∙ ap (λ (x : Node). x.newer) (get_or_read c.args.self.now.nodes.items c.args.at c.index.result.now lt c.index.ensures blank)
    ∙ from-node c.args.self.now.oldest (λ j. (node_at c.args.self.now.nodes.items j).newer) c.args.at named
