use Rattle.std.proofs.Common.{◌≡◌, ◌+◌, ◌/◌, refl, sym, ap, ◌∙◌, subst, arith}
use Rattle.certificate_finder.specs.Readings.{Says}
use Rattle.certificate_finder.specs.Trees.{node_over}
use Rattle.certificate_finder.proofs.LeafLemmas.{expiries_small}
use Rattle.certificate_finder.proofs.TreeLemmas.{IsReached, all_reached, over_more, over_within, own_leaf, reached_more}
use Rattle.certificate_finder.proofs.tree.live_from.Goals as goal

pub loop-level-init : goal.loop-level-init
loop-level-init c = record {
  over = refl;
  reached = λ leaves taken tree. own_leaf c.args.puts.now leaves c.args.shape c.requires.shape.power taken c.args.leaf c.args.moment c.args.nodes.now c.requires.within (expiries_small c.args.puts.now c.requires.fit) tree c.item_at-own.result c.reading-found.result c.item_at-own.ensures c.reading-found.ensures;
}

pub loop-level-preserved : goal.loop-level-preserved
loop-level-preserved c = record {
  over = ap (λ n. n / 2) c.loop-level.invariant.over ∙ sym (over_more c.loop-level._level (c.args.shape.width + c.args.leaf));
  reached = λ leaves taken tree. reached_more c.args.puts.now leaves c.args.shape c.requires.shape.power taken c.args.leaf c.args.moment c.args.nodes.now c.requires.within (expiries_small c.args.puts.now c.requires.fit) tree c.loop-level._level c.loop-level.at c.loop-level-test.true c.loop-level.invariant.over c.loop-level.found c.live_beside-beside.result c.join-found.result (c.loop-level.invariant.reached leaves taken tree) c.live_beside-beside.ensures c.join-found.ensures;
}

pub live_beside-beside-requires-clause-within : goal.live_beside-beside-requires-clause-within
live_beside-beside-requires-clause-within c =
    let within = over_within c.loop-level._level c.args.shape.width c.args.leaf c.loop-level.at c.requires.within c.loop-level.invariant.over in
    let count = c.requires.count in
    omega arith

pub returns : goal.returns
returns c = λ leaves taken are few tree.
    let last : c.loop-level._level ≡ c.args.shape.depth = omega arith in
    all_reached c.args.puts.now leaves c.args.shape c.requires.shape.power taken c.args.leaf c.args.moment c.args.nodes.now c.requires.within (expiries_small c.args.puts.now c.requires.fit) tree c.loop-level.at c.loop-level.found (c.loop-level.invariant.over ∙ ap (λ l. node_over l (c.args.shape.width + c.args.leaf)) last) (λ k less. are.within k 0 (let count = are.count in omega arith)) (subst (λ l. Says (IsReached c.args.puts.now leaves taken c.args.leaf c.args.moment c.args.shape.width l c.loop-level.at) c.loop-level.found) last (c.loop-level.invariant.reached leaves taken tree))
