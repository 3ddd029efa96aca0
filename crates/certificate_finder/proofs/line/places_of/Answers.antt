use Rattle.std.proofs.Common.{◌<◌, rules}
use Rattle.certificate_finder.specs.declared.zone.Zone.{Zone}
use Rattle.certificate_finder.proofs.Listing.{all_at}
use Rattle.certificate_finder.proofs.SpotLemmas.{places_begin, places_more}
use Rattle.certificate_finder.proofs.line.places_of.Goals as goal

pub loop-index-init : goal.loop-index-init
loop-index-init c = places_begin c.args.count c.args.zones.now _ (search rules)

pub loop-index-preserved : goal.loop-index-preserved
loop-index-preserved c = places_more c.args.count c.args.zones.now c.loop-index.index c.loop-index.places.items c.item_at-zone.result c.requires.distinct c.loop-index.invariant c.item_at-zone.ensures (all_at (λ (z : Zone). z.write < c.args.count) c.args.zones.now c.loop-index.index c.item_at-zone.result c.requires.within c.item_at-zone.ensures)
