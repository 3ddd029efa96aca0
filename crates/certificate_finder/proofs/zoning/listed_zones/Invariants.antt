use Rattle.certificate_finder.specs.Lists.{AreApart, Lists}
use Rattle.certificate_finder.specs.Writing.{Writing}
use Rattle.certificate_finder.specs.Zones.{TellsZone}
use Rattle.certificate_finder.specs.declared.zone.Zone.{Zone}
use Rattle.certificate_finder.proofs.zoning.listed_zones.Given as goal

-- the zones so far are listed, each once
abbrev pub invariant-loop-position : goal.invariant-loop-position
invariant-loop-position l = Lists l.steps Writing (TellsZone l.steps l.owners) l.position l.zones.items × AreApart (λ (zone : Zone). zone.write) l.position l.zones.items
