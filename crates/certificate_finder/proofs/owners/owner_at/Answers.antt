use Rattle.std.proofs.Common.{◌≡◌, true, false, refl, subst, arith}
use Rattle.std.proofs.lemmas.Option.{slice_get_within}
use Rattle.certificate_finder.specs.Putting.{GivesAt}
use Rattle.certificate_finder.specs.Readings.{Says}
use Rattle.certificate_finder.specs.Steps.{IsFit}
use Rattle.certificate_finder.proofs.Listing.{all_at}
use Rattle.certificate_finder.proofs.OwnLemmas.{reads_nothing, reads_only, reads_several}
use Rattle.certificate_finder.proofs.owners.owner_at.Goals as goal

pub item_at-requires : goal.item_at-requires
item_at-requires c = let count = c.requires.readings.count in omega arith

pub item_at-put-requires : goal.item_at-put-requires
item_at-put-requires c =
    let says = subst (λ r. Says (GivesAt c.args.puts.now c.item_at-step.result) r) c.in-One.is (c.requires.readings.each c.args.position c.item_at-step.result c.item_at.result c.item_at-step.ensures c.item_at.ensures (c.if-not-is_hit.ensures.0 refl)) in
    slice_get_within c.args.puts.now c.in-One.index says.0.put says.0.at

pub returns-in-Nothing : goal.returns-in-Nothing
returns-in-Nothing c = record {
  step = c.item_at-step.result;
  at = c.item_at-step.ensures;
  is =
      let says = subst (λ r. Says (GivesAt c.args.puts.now c.item_at-step.result) r) c.in-Nothing.is (c.requires.readings.each c.args.position c.item_at-step.result c.item_at.result c.item_at-step.ensures c.item_at.ensures (c.if-not-is_hit.ensures.0 refl)) in
      (c.if-not-is_hit.ensures.0 refl, reads_nothing c.args.steps.now c.args.puts.now c.requires.puts c.item_at-step.result (all_at IsFit c.args.steps.now c.args.position c.item_at-step.result c.requires.fit c.item_at-step.ensures) says);
}

pub returns-in-One : goal.returns-in-One
returns-in-One c = record {
  step = c.item_at-step.result;
  at = c.item_at-step.ensures;
  is =
      let says = subst (λ r. Says (GivesAt c.args.puts.now c.item_at-step.result) r) c.in-One.is (c.requires.readings.each c.args.position c.item_at-step.result c.item_at.result c.item_at-step.ensures c.item_at.ensures (c.if-not-is_hit.ensures.0 refl)) in
      (c.if-not-is_hit.ensures.0 refl, reads_only c.args.steps.now c.args.puts.now c.requires.puts c.item_at-step.result (all_at IsFit c.args.steps.now c.args.position c.item_at-step.result c.requires.fit c.item_at-step.ensures) c.in-One.index c.item_at-put.result c.item_at-put.ensures says);
}

pub returns-in-Several : goal.returns-in-Several
returns-in-Several c = record {
  step = c.item_at-step.result;
  at = c.item_at-step.ensures;
  is =
      let says = subst (λ r. Says (GivesAt c.args.puts.now c.item_at-step.result) r) c.in-Several.is (c.requires.readings.each c.args.position c.item_at-step.result c.item_at.result c.item_at-step.ensures c.item_at.ensures (c.if-not-is_hit.ensures.0 refl)) in
      (c.if-not-is_hit.ensures.0 refl, reads_several c.args.steps.now c.args.puts.now c.requires.puts c.item_at-step.result (all_at IsFit c.args.steps.now c.args.position c.item_at-step.result c.requires.fit c.item_at-step.ensures) says);
}

pub returns-then-not-is_hit : goal.returns-then-not-is_hit
returns-then-not-is_hit c = record { step = c.item_at-step.result; at = c.item_at-step.ensures; is = λ p. let h : false ≡ true = c.if-not-is_hit.ensures.1 p in cc }
