use Rattle.std.proofs.Common.{arith}
use Rattle.certificate_finder.proofs.CrossingLemmas.{still_ends, still_goes}
use Rattle.certificate_finder.proofs.crossings.still_stuck.Goals as goal

pub loop-index-preserved : goal.loop-index-preserved
loop-index-preserved c = still_goes c.args.zones.now c.requires.sorted c.requires.fit c.args.stuck.now c.loop-index.still.items c.mark_crossed.new.still.items c.loop-index.index c.loop-index.high c.item_at-zone.result c.higher-high.result c.requires.distinct c.loop-index.invariant c.item_at-zone.ensures c.mark_crossed.ensures c.higher-high.ensures.chosen c.higher-high.ensures.above

pub returns : goal.returns
returns c = still_ends c.args.zones.now c.requires.sorted c.requires.fit c.args.stuck.now c.loop-index.still.items c.loop-index.index c.loop-index.high c.loop-index.invariant (omega arith)
