use Rattle.std.proofs.Common.{◌<◌, length, ap, ◌∙◌, arith}
use Rattle.std.proofs.lemmas.List.{get_or_read}
use Rattle.entry_pool.specs.declared.node.Node.{Node}
use Rattle.entry_pool.specs.Linked.{chains_of, blank}
use Rattle.entry_pool.proofs.links.Links.item.Goals as goal

pub returns : goal.returns
unfolding chains_of
returns c =
    let lt : c.args.at < length c.args.self.now.nodes.items = omega arith in
    c.item.ensures ∙ ap (λ (x : Node). x.item) (get_or_read c.args.self.now.nodes.items c.args.at c.index.result.now lt c.index.ensures blank)
