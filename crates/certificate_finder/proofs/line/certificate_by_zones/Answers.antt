use Rattle.std.proofs.Common.{◌<◌, length, sym, ap, ◌∙◌, subst, arith}
use Rattle.std.specs.Prelude.{All, AllPairs}
use Rattle.certificate_finder.specs.declared.ranked.Ranked.{Ranked}
use Rattle.certificate_finder.specs.Zones.{AreZones, FollowOn}
use Rattle.certificate_finder.proofs.FoundLemmas.{owners_in}
use Rattle.certificate_finder.proofs.SpotLemmas.{accepted_by_spots, line_length, line_within, zones_in}
use Rattle.certificate_finder.proofs.line.certificate_by_zones.Goals as goal

pub places_of-requires-clause-within : goal.places_of-requires-clause-within
places_of-requires-clause-within c = zones_in c.args.steps.now c.args.owners.now c.as_slice-listed.result.now (subst (λ zs. AreZones c.args.steps.now c.args.owners.now zs) (sym c.as_slice-listed.ensures.value) c.requires.zones)

pub line_of-requires-clause-count : goal.line_of-requires-clause-count
line_of-requires-clause-count c = c.requires.owners.count

pub line_of-requires-clause-within : goal.line_of-requires-clause-within
line_of-requires-clause-within c = owners_in c.args.steps.now c.args.owners.now c.requires.owners

pub line_of-requires-clause-places : goal.line_of-requires-clause-places
line_of-requires-clause-places c = ap length c.as_slice-placed.ensures.value ∙ c.in_ok-places.ensures.len

pub spots_of-requires-clause-few : goal.spots_of-requires-clause-few
spots_of-requires-clause-few c = let l = line_length c.args.steps.now c.args.owners.now c.as_slice-placed.result.now (length c.as_slice-listed.result.now) c.in_ok-line.line.items c.in_ok-line.ensures in let same = ap length c.as_slice-turns.ensures.value in let few = c.requires.few in omega arith

pub spots_of-requires-clause-positions : goal.spots_of-requires-clause-positions
spots_of-requires-clause-positions c = subst (λ l. All (λ (turn : Ranked). turn.position < length c.args.steps.now) l) (sym c.as_slice-turns.ensures.value) (line_within c.args.steps.now c.args.owners.now c.as_slice-placed.result.now (length c.as_slice-listed.result.now) c.in_ok-line.line.items c.in_ok-line.ensures)

pub returns-in-Ok : goal.returns-in-Ok
returns-in-Ok c = λ history are intervals. accepted_by_spots history c.args.steps.now are c.args.owners.now c.requires.owners c.as_slice-listed.result.now (subst (λ zs. AreZones c.args.steps.now c.args.owners.now zs) (sym c.as_slice-listed.ensures.value) c.requires.zones) c.as_slice-placed.result.now c.in_ok-places.places.items c.as_slice-placed.ensures.value c.in_ok-places.ensures c.in_ok-line.line.items c.as_slice-turns.result.now c.as_slice-turns.ensures.value c.in_ok-line.ensures c.in_ok-spots.spots.items c.as_slice-spotted.result.now c.as_slice-spotted.ensures.value (subst (λ zs. AllPairs FollowOn zs) (sym c.as_slice-listed.ensures.value) c.requires.follow) intervals (c.in_ok-spots.ensures history are) c.in-Ok.certificate c.in-Ok.ensures
