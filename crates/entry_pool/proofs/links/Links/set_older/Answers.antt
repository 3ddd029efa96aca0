-- The head leads elsewhere, or the node does.
use Rattle.std.proofs.Common.{◌≡◌, ◌<◌, length, ap, ◌∙◌, arith}
use Rattle.std.proofs.lemmas.List.{get_or_read}
use Rattle.entry_pool.specs.declared.node.Node.{Node}
use Rattle.entry_pool.specs.Chains.{none}
use Rattle.entry_pool.specs.Linked.{chains_of, blank, node_at}
use Rattle.entry_pool.proofs.LinkLaws.{newest-set, older-set}
use Rattle.entry_pool.proofs.links.Links.set_older.Goals as goal

pub returns-then-at-eq-NONE-clause-chains : goal.returns-then-at-eq-NONE-clause-chains
unfolding chains_of
returns-then-at-eq-NONE-clause-chains c =
    let l = c.args.self.now in
    newest-set l.nodes.items l.heads.items l.newest l.oldest l.free c.args.at c.args.to (omega arith)

pub returns-else-at-eq-NONE-clause-chains : goal.returns-else-at-eq-NONE-clause-chains
unfolding chains_of
returns-else-at-eq-NONE-clause-chains c =
    let l = c.args.self.now in
    let named : c.args.at ≡ none → ⊥ = λ e. omega (arith, e) in
    let lt : c.args.at < length c.args.self.now.nodes.items = omega arith in
    let was : c.index_mut.result.now ≡ node_at l.nodes.items c.args.at = get_or_read l.nodes.items c.args.at c.index_mut.result.now lt c.index_mut.ensures.value blank in
    older-set l.nodes.items l.heads.items l.newest l.oldest l.free c.args.at c.args.to c.set_older.new.self lt named (c.set_older.ensures ∙ ap (λ (x : Node). record x { older = c.args.to }) was)
