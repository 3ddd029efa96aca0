use Rattle.std.proofs.Common.{◌<◌, length, sym, ap, ◌∙◌, subst, arith}
use Rattle.std.specs.Prelude.{All, AllPairs, slice_get}
use Rattle.certificate_finder.specs.declared.found.Found.TheVariants.{Rejected}
use Rattle.certificate_finder.specs.Finding.{IsFound}
use Rattle.certificate_finder.specs.Owning.{AreOwners, AreSureOwners}
use Rattle.certificate_finder.specs.Zones.{AreCrossing, AreZones, FollowOn}
use Rattle.certificate_finder.proofs.FoundLemmas.{follow_on, found_crossed, single_owners_in, single_sure, some_left, sure}
use Rattle.certificate_finder.proofs.Listing.{all_at}
use Rattle.certificate_finder.proofs.finding.arranged.Goals as goal

pub zones_of-requires-clause-within : goal.zones_of-requires-clause-within
zones_of-requires-clause-within c = subst (λ os. All (λ owner. owner < length c.args.steps.now) os) (sym c.as_slice-owned.ensures.value) (single_owners_in c.args.steps.now c.args.owners.owners.items (single_sure c.args.steps.now c.args.owners.owners.items c.args.owners.unsure.items c.requires.owners))

pub chosen-requires-clause-owners : goal.chosen-requires-clause-owners
chosen-requires-clause-owners c = subst (λ os. AreSureOwners c.args.steps.now (length c.args.steps.now) os c.args.owners.unsure.items) (sym c.as_slice-owned.ensures.value) c.requires.owners

pub chosen-requires-clause-some : goal.chosen-requires-clause-some
chosen-requires-clause-some c = some_left c.args.owners.unsure.items c.as_slice-doubtful.result.now c.as_slice-doubtful.ensures.value c.if-is_empty.ensures

pub chosen-requires-clause-uncrossed : goal.chosen-requires-clause-uncrossed
chosen-requires-clause-uncrossed c = record {
  zones = c.as_slice-listed.result.now;
  are_zones = subst (λ zs. AreZones c.args.steps.now c.as_slice-owned.result.now zs) (sym c.as_slice-listed.ensures.value) c.in_ok-zones.ensures;
  follow = follow_on c.args.steps.now c.as_slice-owned.result.now c.in_ok-zones.zones.items c.as_slice-listed.result.now c.in_ok-crossings.crossings.items c.as_slice-crossed.result.now c.as_slice-listed.ensures.value c.in_ok-zones.ensures c.in_ok-crossings.ensures c.as_slice-crossed.ensures.value c.if-not-is_empty.ensures;
}

pub certificate_by_zones-requires-clause-few_zones : goal.certificate_by_zones-requires-clause-few_zones
certificate_by_zones-requires-clause-few_zones c = let l = c.in_ok-zones.ensures.lists.few in let few = c.requires.few in omega arith

pub certificate_by_zones-requires-clause-owners : goal.certificate_by_zones-requires-clause-owners
certificate_by_zones-requires-clause-owners c = subst (λ os. AreOwners c.args.steps.now os) (sym c.as_slice-owned.ensures.value) (sure c.args.steps.now c.args.owners.owners.items c.args.owners.unsure.items c.as_slice-doubtful.result.now c.as_slice-doubtful.ensures.value c.if-is_empty.ensures c.requires.owners)

pub returns-then-is_empty : goal.returns-then-is_empty
returns-then-is_empty c = λ history are intervals. record { accepted = c.in_ok-certificate.ensures history are intervals; rejected = tt; first = tt; undecided = tt }

pub certificate_by_zones-requires-clause-follow : goal.certificate_by_zones-requires-clause-follow
certificate_by_zones-requires-clause-follow c = subst (λ zs. AllPairs FollowOn zs) c.as_slice-listed.ensures.value (follow_on c.args.steps.now c.as_slice-owned.result.now c.in_ok-zones.zones.items c.as_slice-listed.result.now c.in_ok-crossings.crossings.items c.as_slice-crossed.result.now c.as_slice-listed.ensures.value c.in_ok-zones.ensures c.in_ok-crossings.ensures c.as_slice-crossed.ensures.value c.if-not-is_empty.ensures)

pub returns-then-not-is_empty : goal.returns-then-not-is_empty
returns-then-not-is_empty c = λ history are intervals. subst (λ w. IsFound history (Rejected w)) (sym c.witness.ensures) (found_crossed history c.args.steps.now c.args.owners.owners.items c.args.owners.unsure.items c.in_ok-zones.zones.items c.item_at-first.result are c.requires.owners (subst (λ os. AreZones c.args.steps.now os c.in_ok-zones.zones.items) c.as_slice-owned.ensures.value c.in_ok-zones.ensures) (subst (λ zs. AreCrossing zs c.item_at-first.result) c.as_slice-listed.ensures.value (all_at (AreCrossing c.as_slice-listed.result.now) c.in_ok-crossings.crossings.items 0 c.item_at-first.result c.in_ok-crossings.ensures.each (sym (ap (λ l. slice_get l 0) c.as_slice-crossed.ensures.value) ∙ c.item_at-first.ensures))) intervals)
