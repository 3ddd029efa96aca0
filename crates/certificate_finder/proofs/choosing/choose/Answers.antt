use Rattle.std.proofs.Common.{take}
use Rattle.std.proofs.lemmas.Option.{slice_get_within}
use Rattle.certificate_finder.specs.Lining.{positions_in}
use Rattle.certificate_finder.specs.Offering.{GoesByItself, ReadsIn, times_in}
use Rattle.certificate_finder.specs.Owning.{IsUnsure}
use Rattle.certificate_finder.proofs.Listing.{all_at}
use Rattle.certificate_finder.proofs.InTurnLemmas.{chosen_next, next_fresh, position_at, untouched}
use Rattle.certificate_finder.proofs.choosing.choose.Goals as goal

pub chosen_put-put-requires-clause-unsure : goal.chosen_put-put-requires-clause-unsure
chosen_put-put-requires-clause-unsure c = all_at (IsUnsure c.args.steps.now) (positions_in c.args.hits.now) c.loop-index.index c.item_at-hit.result.position c.requires.unsure (position_at c.args.hits.now c.loop-index.index c.item_at-hit.result c.item_at-hit.ensures)

pub join-requires-clause-alone : goal.join-requires-clause-alone
join-requires-clause-alone c = untouched c.args.rule (ReadsIn c.args.steps.now) (times_in c.args.steps.now) c.args.groups.now.owners.items (take c.loop-index.index (positions_in c.args.hits.now)) c.loop-index.groups.owners.items c.item_at-hit.result.position c.item_at-hit.result.position c.loop-index.invariant.chosen
    (next_fresh c.args.steps.now c.args.hits.now c.loop-index.index c.item_at-hit.result c.requires.order c.item_at-hit.ensures)
    (all_at (GoesByItself c.args.groups.now.owners.items) (positions_in c.args.hits.now) c.loop-index.index c.item_at-hit.result.position c.requires.alone (position_at c.args.hits.now c.loop-index.index c.item_at-hit.result c.item_at-hit.ensures))

pub join-requires-clause-hit : goal.join-requires-clause-hit
join-requires-clause-hit c = slice_get_within c.args.steps.now c.item_at-hit.result.position c.chosen_put-put.ensures.can.asked c.chosen_put-put.ensures.can.asked_at

pub join-requires-clause-put : goal.join-requires-clause-put
join-requires-clause-put c = slice_get_within c.args.steps.now c.chosen_put-put.result c.chosen_put-put.ensures.can.given c.chosen_put-put.ensures.can.given_at

pub loop-index-preserved : goal.loop-index-preserved
loop-index-preserved c = record {
  groups = c.join.ensures.groups;
  chosen = chosen_next c.args.rule (ReadsIn c.args.steps.now) (times_in c.args.steps.now) c.args.groups.now.owners.items c.loop-index.groups.owners.items c.join.new.self.owners.items c.args.hits.now c.loop-index.index c.chosen_put-put.result c.item_at-hit.result c.item_at-hit.ensures c.loop-index.invariant.chosen c.chosen_put-put.ensures c.join.ensures.owners;
}
