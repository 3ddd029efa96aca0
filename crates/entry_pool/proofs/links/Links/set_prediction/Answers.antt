use Rattle.std.proofs.Common.{◌≡◌, ap, ◌∙◌}
use Rattle.std.proofs.lemmas.List.{get_or_read}
use Rattle.entry_pool.specs.declared.pool_item.PoolItem.{PoolItem}
use Rattle.entry_pool.specs.declared.node.Node.{Node}
use Rattle.entry_pool.specs.Linked.{chains_of, blank, node_at, with_prediction}
use Rattle.entry_pool.proofs.LinkLaws.{item-set}
use Rattle.entry_pool.proofs.links.Links.set_prediction.Goals as goal

pub returns-clause-chains : goal.returns-clause-chains
unfolding chains_of
returns-clause-chains c =
    let l = c.args.self.now in
    let n = c.args.prediction in
    let was : c.index_mut-node.result.now ≡ node_at l.nodes.items c.args.at = get_or_read l.nodes.items c.args.at c.index_mut-node.result.now c.requires c.index_mut-node.ensures.value blank in
    let got : c.get-item.result ≡ node_at l.nodes.items c.args.at = c.get-item.ensures.value ∙ was in
    item-set l.nodes.items l.heads.items l.newest l.oldest l.free c.args.at (with_prediction n (node_at l.nodes.items c.args.at).item) c.set_item.new.self c.requires
    (c.set_item.ensures ∙ ap (λ (x : Node). record x { item = with_prediction n c.get-item.result.item }) was ∙ ap (λ (it : PoolItem). record (node_at l.nodes.items c.args.at) { item = with_prediction n it }) (ap (λ (x : Node). x.item) got))
