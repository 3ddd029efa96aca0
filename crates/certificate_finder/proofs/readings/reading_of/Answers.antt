use Rattle.std.proofs.Common.{subst}
use Rattle.certificate_finder.specs.Leaves.{IsBelow}
use Rattle.certificate_finder.specs.Putting.{GivesAt}
use Rattle.certificate_finder.specs.Trees.{IsFrom}
use Rattle.certificate_finder.proofs.LeafLemmas.{from_gives, gives_from, leaves_within}
use Rattle.certificate_finder.proofs.ReadingLemmas.{says_same}
use Rattle.certificate_finder.proofs.readings.reading_of.Goals as goal

pub add_all-requires-clause-leaves : goal.add_all-requires-clause-leaves
add_all-requires-clause-leaves c = leaves_within c.args.leaved.puts.now c.args.leaved.ends.now c.args.leaved.leaves.now c.args.shape.width c.requires.leaved.ends_are c.requires.leaved.leaves_are c.requires.shape.more

pub returns-clause-reading : goal.returns-clause-reading
returns-clause-reading c =
    let below = subst (λ r. IsBelow c.args.leaved.ends.now r c.ends_below-leaf.result) c.value_rank.ensures c.ends_below-leaf.ensures in
    says_same (IsFrom c.args.leaved.puts.now c.args.leaved.leaves.now c.args.upto c.ends_below-leaf.result c.args.hit.now.time) (GivesAt c.args.leaved.puts.now c.args.hit.now) c.live_from.result
    (from_gives c.args.leaved.puts.now c.args.leaved.ends.now c.args.leaved.leaves.now c.requires.leaved.order c.requires.leaved.ends_are c.requires.leaved.leaves_are c.args.hit.now c.requires.fit c.args.upto c.ends_below-leaf.result c.requires.begun below)
    (gives_from c.args.leaved.puts.now c.args.leaved.ends.now c.args.leaved.leaves.now c.requires.leaved.order c.requires.leaved.ends_are c.requires.leaved.leaves_are c.args.hit.now c.requires.fit c.args.upto c.ends_below-leaf.result c.requires.begun below)
    (c.live_from.ensures c.args.leaved.leaves.now c.args.upto (leaves_within c.args.leaved.puts.now c.args.leaved.ends.now c.args.leaved.leaves.now c.args.shape.width c.requires.leaved.ends_are c.requires.leaved.leaves_are c.requires.shape.more) c.requires.begun.bound c.add_all.ensures.tree)
