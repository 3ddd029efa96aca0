-- The head of the set's bucket leads elsewhere, or the node does.
use Rattle.std.proofs.Common.{◌≡◌, ◌<◌, length, ap, ◌∙◌, arith}
use Rattle.std.proofs.lemmas.List.{get_or_read}
use Rattle.entry_pool.specs.declared.node.Node.{Node}
use Rattle.entry_pool.specs.Chains.{none}
use Rattle.entry_pool.specs.Linked.{chains_of, blank, node_at}
use Rattle.entry_pool.proofs.LinkLaws.{heads-set, next-set}
use Rattle.entry_pool.proofs.links.Links.set_next.Goals as goal

pub returns-then-at-eq-NONE-clause-chains : goal.returns-then-at-eq-NONE-clause-chains
unfolding chains_of
returns-then-at-eq-NONE-clause-chains c =
    let l = c.args.self.now in
    heads-set l.nodes.items l.heads.items l.newest l.oldest l.free c.args.at c.args.to c.args.set (omega arith) c.requires.set

pub returns-else-at-eq-NONE-clause-chains : goal.returns-else-at-eq-NONE-clause-chains
unfolding chains_of
returns-else-at-eq-NONE-clause-chains c =
    let l = c.args.self.now in
    let named : c.args.at ≡ none → ⊥ = λ e. omega (arith, e) in
    let lt : c.args.at < length c.args.self.now.nodes.items = omega arith in
    let was : c.index_mut-else-at-eq-NONE.result.now ≡ node_at l.nodes.items c.args.at = get_or_read l.nodes.items c.args.at c.index_mut-else-at-eq-NONE.result.now lt c.index_mut-else-at-eq-NONE.ensures.value blank in
    next-set l.nodes.items l.heads.items l.newest l.oldest l.free c.args.at c.args.to c.args.set c.set_next.new.self lt named (c.set_next.ensures ∙ ap (λ (x : Node). record x { next = c.args.to }) was)
