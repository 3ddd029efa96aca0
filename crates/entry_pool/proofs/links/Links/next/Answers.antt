-- The head's link, or the node's.
use Rattle.std.proofs.Common.{◌≡◌, ◌<◌, ◌≤◌, length, get_or, sym, ap, ◌∙◌, arith}
use Rattle.std.proofs.lemmas.List.{get_or_read, get_or_past}
use Rattle.entry_pool.specs.declared.node.Node.{Node}
use Rattle.entry_pool.specs.Chains.{none}
use Rattle.entry_pool.specs.Linked.{chains_of, blank, node_at}
use Rattle.entry_pool.proofs.LinkLaws.{from-head, from-node}
use Rattle.entry_pool.proofs.links.Links.next.Goals as goal

pub returns-then-at-ne-NONE : goal.returns-then-at-ne-NONE
unfolding chains_of
returns-then-at-ne-NONE c =
    let named : c.args.at ≡ none → ⊥ = λ e. omega (arith, e) in
    let lt : c.args.at < length c.args.self.now.nodes.items = omega arith in
    c.next.ensures
    ∙ ap (λ (x : Node). x.next) (get_or_read c.args.self.now.nodes.items c.args.at c.index.result.now lt c.index.ensures blank)
    ∙ from-node (get_or c.args.self.now.heads.items c.args.set none) (λ j. (node_at c.args.self.now.nodes.items j).next) c.args.at named

pub returns-then-set-len : goal.returns-then-set-len
unfolding chains_of
returns-then-set-len c =
    let lt : c.args.set < length c.args.self.now.heads.items = omega arith in
    get_or_read c.args.self.now.heads.items c.args.set c.index-then-set-len.result.now lt c.index-then-set-len.ensures none
    ∙ from-head (get_or c.args.self.now.heads.items c.args.set none) (λ j. (node_at c.args.self.now.nodes.items j).next) c.args.at (omega arith)

pub returns-else-set-len : goal.returns-else-set-len
unfolding chains_of
returns-else-set-len c =
    let past : length c.args.self.now.heads.items ≤ c.args.set = omega arith in
    sym (get_or_past c.args.self.now.heads.items c.args.set none past)
    ∙ from-head (get_or c.args.self.now.heads.items c.args.set none) (λ j. (node_at c.args.self.now.nodes.items j).next) c.args.at (omega arith)
