use Rattle.std.proofs.Common.{◌<◌, ◌+◌, sym, ap, subst, arith}
use Rattle.std.specs.Prelude.{slice_index}
use Rattle.std.proofs.lemmas.Option.{get_or_from_slice_get}
use Rattle.certificate_finder.specs.Bests.{AreAmong}
use Rattle.certificate_finder.proofs.BestLemmas.{among_with}
use Rattle.certificate_finder.proofs.Listing.{all_at}
use Rattle.certificate_finder.proofs.TreeLemmas.{all_set, entered, entering, over_next, over_within, rows_more}
use Rattle.certificate_finder.proofs.tree.add.Goals as goal

pub overflow_add-level-end : goal.overflow_add-level-end
overflow_add-level-end c = let deep = c.requires.shape.deep in let least = c.requires.shape.least in let few = c.requires.few in omega arith

pub loop-level-init : goal.loop-level-init
loop-level-init c = record {
  over = ap (λ leaf. c.args.shape.width + leaf) (sym (get_or_from_slice_get c.args.leaves.now c.args.index c.item_at-leaf.result 0 c.item_at-leaf.ensures));
  among = c.requires.among;
  rows = entering c.args.puts.now c.args.leaves.now c.args.shape c.args.index c.args.nodes.now c.requires.tree;
}

pub loop-level-preserved : goal.loop-level-preserved
loop-level-preserved c =
    let leaf : slice_index c.args.leaves.now c.args.index < c.args.shape.width = subst (λ l. l < c.args.shape.width) (sym (get_or_from_slice_get c.args.leaves.now c.args.index c.item_at-leaf.result 0 c.item_at-leaf.ensures)) (all_at (λ l. l < c.args.shape.width) c.args.leaves.now c.args.index c.item_at-leaf.result c.requires.leaves.within c.item_at-leaf.ensures) in
    record {
      over = over_next c.args.puts.now c.args.leaves.now c.args.shape c.requires.shape.power c.args.index c.loop-level._level c.loop-level.at c.item_at-node.result c.with-with.result c.loop-level.nodes leaf (omega arith) c.loop-level.invariant.over c.loop-level.invariant.rows c.item_at-node.ensures c.with-with.ensures;
      among = all_set (λ b. AreAmong c.args.puts.now b) c.loop-level.nodes c.loop-level.at c.with-with.result c.loop-level.invariant.among (among_with c.args.puts.now c.item_at-node.result c.args.index c.with-with.result (all_at (λ b. AreAmong c.args.puts.now b) c.loop-level.nodes c.loop-level.at c.item_at-node.result c.loop-level.invariant.among c.item_at-node.ensures) c.requires.within c.with-with.ensures);
      rows = rows_more c.args.puts.now c.args.leaves.now c.args.shape c.requires.shape.power c.args.index c.loop-level._level c.loop-level.at c.item_at-node.result c.with-with.result c.loop-level.nodes leaf (omega arith) c.loop-level.invariant.over c.loop-level.invariant.rows c.item_at-node.ensures c.with-with.ensures;
    }

pub item_at-node-requires : goal.item_at-node-requires
item_at-node-requires c =
    let leaf : slice_index c.args.leaves.now c.args.index < c.args.shape.width = subst (λ l. l < c.args.shape.width) (sym (get_or_from_slice_get c.args.leaves.now c.args.index c.item_at-leaf.result 0 c.item_at-leaf.ensures)) (all_at (λ l. l < c.args.shape.width) c.args.leaves.now c.args.index c.item_at-leaf.result c.requires.leaves.within c.item_at-leaf.ensures) in
    let within = over_within c.loop-level._level c.args.shape.width (slice_index c.args.leaves.now c.args.index) c.loop-level.at leaf c.loop-level.invariant.over in
    let count = c.requires.count in
    omega arith

pub with-with-requires-clause-among : goal.with-with-requires-clause-among
with-with-requires-clause-among c = all_at (λ b. AreAmong c.args.puts.now b) c.loop-level.nodes c.loop-level.at c.item_at-node.result c.loop-level.invariant.among c.item_at-node.ensures

pub returns-clause-tree : goal.returns-clause-tree
returns-clause-tree c = entered c.args.puts.now c.args.leaves.now c.args.shape c.args.index c.loop-level._level c.loop-level.nodes (omega arith) c.loop-level.invariant.rows
