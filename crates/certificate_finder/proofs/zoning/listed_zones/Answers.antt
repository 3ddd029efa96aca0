use Rattle.std.proofs.Common.{◌≡◌, refl, sym, subst}
use Rattle.certificate_finder.specs.declared.zone.Zone.{Zone}
use Rattle.certificate_finder.specs.Writing.{Writing}
use Rattle.certificate_finder.specs.Zones.{TellsZone}
use Rattle.certificate_finder.proofs.Listing.{apart_grows, grows_weaker, lists_grow, same_at}
use Rattle.certificate_finder.proofs.zoning.listed_zones.Goals as goal

pub loop-position-preserved : goal.loop-position-preserved
loop-position-preserved c =
    let same = same_at c.args.steps.now c.loop-position.position c.loop-position.position c.zone_of-zone.ensures.step c.item_at-step.result refl c.zone_of-zone.ensures.at c.item_at-step.ensures in
    let told : TellsZone c.args.steps.now c.args.owners.now c.loop-position.position c.item_at-step.result c.zone_of-zone.result = subst (λ s. TellsZone c.args.steps.now c.args.owners.now c.loop-position.position s c.zone_of-zone.result) same c.zone_of-zone.ensures.told in
    let grows = grows_weaker Writing (λ p s z. z ≡ c.zone_of-zone.result) (TellsZone c.args.steps.now c.args.owners.now) 0 c.loop-position.position c.item_at-step.result c.loop-position.zones.items c.list_zone.new.zones.items (λ z is. subst (λ x. TellsZone c.args.steps.now c.args.owners.now c.loop-position.position c.item_at-step.result x) (sym is) told) c.in_ok-list_zone.ensures in (
      lists_grow c.args.steps.now Writing (TellsZone c.args.steps.now c.args.owners.now) c.loop-position.position c.loop-position.zones.items c.list_zone.new.zones.items c.item_at-step.result c.loop-position.invariant.0 c.item_at-step.ensures grows,
      apart_grows (λ (zone : Zone). zone.write) Writing (TellsZone c.args.steps.now c.args.owners.now) c.loop-position.position c.loop-position.zones.items c.list_zone.new.zones.items c.item_at-step.result c.loop-position.invariant.1 (λ z is. is.write) grows,
    )
