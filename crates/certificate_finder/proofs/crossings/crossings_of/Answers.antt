use Rattle.std.proofs.Common.{arith}
use Rattle.certificate_finder.proofs.CrossingLemmas.{crossings_end, crossings_go}
use Rattle.certificate_finder.proofs.crossings.crossings_of.Goals as goal

pub loop-index-preserved : goal.loop-index-preserved
loop-index-preserved c = crossings_go c.args.zones.now c.requires.sorted c.requires.fit c.loop-index.crossings.items c.list_crossing.new.crossings.items c.loop-index.index c.loop-index.high c.item_at-zone.result c.higher-high.result c.requires.distinct c.loop-index.invariant c.item_at-zone.ensures c.in_ok-list_crossing.ensures c.higher-high.ensures.chosen c.higher-high.ensures.above

pub returns : goal.returns
returns c = crossings_end c.args.zones.now c.requires.sorted c.requires.fit c.loop-index.crossings.items c.loop-index.index c.loop-index.high c.loop-index.invariant (omega arith)
