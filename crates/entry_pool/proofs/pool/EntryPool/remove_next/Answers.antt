-- The node that the mark leads to goes out of its chains.
use Rattle.std.proofs.Common.{◌∷◌, ℕ, sym, ap, subst, ◌∙◌}
use Rattle.entry_pool.specs.Chains.{none, IsIn, after_of}
use Rattle.entry_pool.specs.Linked.{chains_of}
use Rattle.entry_pool.specs.Rows.{Rows, in_set, with_rows, without_at}
use Rattle.entry_pool.specs.Pool.{bucket_of, IsBehind}
use Rattle.entry_pool.proofs.Sound.{bucket-ages, can-take}
use Rattle.entry_pool.proofs.Settled.{taken-sound, taken-rows}
use Rattle.entry_pool.proofs.Marks.{bucket-rows, mark-in, NextNode, next-node}
use Rattle.entry_pool.proofs.pool.EntryPool.remove_next.Goals as goal

pub take-requires : goal.take-requires
take-requires c =
    let l = c.self.inside.links in
    let set = c.args.row.now.item.set in
    let rows = bucket-rows l c.args.self.now set c.self.view_is in
    let node : NextNode (chains_of l).item (bucket_of l set) c.args.mark c.args.row.now = next-node (chains_of l).item (bucket_of l set) (in_set set c.args.self.now.rows) c.args.mark c.args.row.now rows c.requires.next in
    let mark = mark-in (chains_of l).item (bucket_of l set) (in_set set c.args.self.now.rows) c.args.mark rows c.requires.mark in
    can-take l c.self.invariant c.args.row.now.at c.args.mark (bucket-ages l c.self.invariant set c.args.row.now.at node.inside)
    (subst (λ (s : ℕ). IsIn c.args.mark (none ∷ bucket_of l s)) (sym node.set) mark)
    (subst (λ (s : ℕ). IsBehind c.args.row.now.at (after_of c.args.mark none (bucket_of l s))) (sym node.set) node.behind)

pub invariant_of-self : goal.invariant_of-self
invariant_of-self c =
    let l = c.self.inside.links in
    let set = c.args.row.now.item.set in
    let rows = bucket-rows l c.args.self.now set c.self.view_is in
    let node : NextNode (chains_of l).item (bucket_of l set) c.args.mark c.args.row.now = next-node (chains_of l).item (bucket_of l set) (in_set set c.args.self.now.rows) c.args.mark c.args.row.now rows c.requires.next in
    let behind = subst (λ (s : ℕ). IsBehind c.args.row.now.at (after_of c.args.mark none (bucket_of l s))) (sym node.set) node.behind in
    taken-sound l c.take.new.self c.args.row.now.at c.args.mark c.self.invariant behind c.take.ensures.taken c.take.ensures.nodes c.take.ensures.heads c.take.ensures.count (bucket-ages l c.self.invariant set c.args.row.now.at node.inside)

pub returns : goal.returns
returns c =
    let l = c.self.inside.links in
    let set = c.args.row.now.item.set in
    let rows = bucket-rows l c.args.self.now set c.self.view_is in
    let node : NextNode (chains_of l).item (bucket_of l set) c.args.mark c.args.row.now = next-node (chains_of l).item (bucket_of l set) (in_set set c.args.self.now.rows) c.args.mark c.args.row.now rows c.requires.next in
    let behind = subst (λ (s : ℕ). IsBehind c.args.row.now.at (after_of c.args.mark none (bucket_of l s))) (sym node.set) node.behind in
    taken-rows l c.take.new.self c.args.row.now.at c.args.mark c.self.invariant behind c.take.ensures.taken c.take.ensures.nodes c.take.ensures.heads c.take.ensures.count (bucket-ages l c.self.invariant set c.args.row.now.at node.inside)
    ∙ ap (λ (p : Rows). with_rows p (without_at c.args.row.now.at p.rows)) c.self.view_is
