use Rattle.std.proofs.Common.{length, sym, subst, arith}
use Rattle.certificate_finder.specs.declared.witness.Side.{Side}
use Rattle.certificate_finder.specs.Lists.{Lists}
use Rattle.certificate_finder.specs.Unreading.{IsCrossedIf}
use Rattle.certificate_finder.specs.Writing.{Writing}
use Rattle.certificate_finder.specs.Zones.{TellsZone}
use Rattle.certificate_finder.proofs.IfReadLemmas.{crossed_some, open_none, open_some}
use Rattle.certificate_finder.proofs.if_read.crossed_if.Goals as goal

pub returns-then-first-zone : goal.returns-then-first-zone
returns-then-first-zone c =
    let lists = subst (λ zones. Lists c.args.steps.now Writing (TellsZone c.args.steps.now c.args.groups.now.owners.items) (length c.args.steps.now) zones) (sym c.as_slice-zones.ensures.value) c.requires.by_ends.zones.lists in
    subst (λ (other : Side). IsCrossedIf c.args.steps.now c.args.groups.now.owners.items c.args.hit c.args.put (record { one = c.side_if-own.result; other = other })) (sym c.side.ensures)
    (crossed_some c.args.steps.now c.args.groups.now.owners.items c.as_slice-zones.result.now lists c.args.hit c.args.put c.item_at-given.result c.item_at-first.result c.item_at-last.result c.side_if-own.result c.side_if-own.ensures c.item_at-given.ensures c.item_at-first.ensures c.item_at-last.ensures c.in-Some.zone c.in-Some.ensures c.if-first-zone.true)

pub returns-else-first-zone : goal.returns-else-first-zone
returns-else-first-zone c =
    let lists = subst (λ zones. Lists c.args.steps.now Writing (TellsZone c.args.steps.now c.args.groups.now.owners.items) (length c.args.steps.now) zones) (sym c.as_slice-zones.ensures.value) c.requires.by_ends.zones.lists in
    open_some c.args.steps.now c.args.groups.now.owners.items c.as_slice-zones.result.now lists c.args.hit c.args.put c.item_at-given.result c.item_at-first.result c.item_at-last.result c.side_if-own.result c.side_if-own.ensures c.item_at-given.ensures c.item_at-first.ensures c.item_at-last.ensures c.in-Some.zone c.in-Some.ensures (omega arith)

pub returns-in-None : goal.returns-in-None
returns-in-None c =
    let lists = subst (λ zones. Lists c.args.steps.now Writing (TellsZone c.args.steps.now c.args.groups.now.owners.items) (length c.args.steps.now) zones) (sym c.as_slice-zones.ensures.value) c.requires.by_ends.zones.lists in
    open_none c.args.steps.now c.args.groups.now.owners.items c.as_slice-zones.result.now lists c.args.hit c.args.put c.item_at-given.result c.item_at-first.result c.item_at-last.result c.side_if-own.result c.side_if-own.ensures c.item_at-given.ensures c.item_at-first.ensures c.item_at-last.ensures c.in-None.ensures
