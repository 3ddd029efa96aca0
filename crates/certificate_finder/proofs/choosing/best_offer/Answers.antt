use Rattle.std.proofs.Common.{◌≡◌, ◌-◌, length, refl, ap, ◌∙◌, subst, arith}
use Rattle.std.proofs.lemmas.Option.{slice_get_within}
use Rattle.trace_file.specs.declared.call_kind.CallKind.TheVariants as kinds
use Rattle.certificate_finder.specs.declared.numbered_call.NumberedCall.{NumberedCall}
use Rattle.certificate_finder.specs.Offering.{IsBestOffer}
use Rattle.certificate_finder.specs.Putting.{put_rank}
use Rattle.certificate_finder.specs.Writing.{IsSplit}
use Rattle.certificate_finder.proofs.ChoosingLemmas.{can_have_read, more, none_standing, not_begun, position_within, skip}
use Rattle.certificate_finder.proofs.Listing.{same_at}
use Rattle.certificate_finder.proofs.choosing.best_offer.Goals as goal

pub item_at-asked-requires : goal.item_at-asked-requires
item_at-asked-requires c = slice_get_within c.args.steps.now c.args.hit c.requires.unsure.step c.requires.unsure.at

pub loop-upto-init : goal.loop-upto-init
loop-upto-init c = record {
  within = omega arith;
  best = λ k put low less at. not_begun c.args.steps.now c.args.puts.now c.requires.puts c.requires.fit c.args.hit c.item_at-asked.result c.item_at-asked.ensures k c.puts_upto-upto.result put (subst (λ r. IsSplit put_rank c.args.puts.now r c.puts_upto-upto.result) c.value_rank.ensures c.puts_upto-upto.ensures) low at;
}

pub loop-upto-preserved-then-last-least : goal.loop-upto-preserved-then-last-least
loop-upto-preserved-then-last-least c =
    let link = c.requires.links.each (c.loop-upto.upto - 1) c.item_at-upto.result c.item_at-upto.ensures in
    let low = c.last.ensures in
    let rank = c.value_rank-least.ensures in
    let less = c.if-last-least.true in
    let back = link.back in
    let within = c.loop-upto.invariant.within in
    record {
      within = omega arith;
      best = skip c.args.steps.now c.args.puts.now c.requires.puts c.requires.fit c.args.hit c.item_at-asked.result c.item_at-asked.ensures c.args.groups.now.owners.items c.args.rule (length c.args.puts.now) c.loop-upto.best c.item_at-upto.result c.loop-upto.upto
          (none_standing c.args.steps.now c.args.puts.now c.requires.puts c.requires.fit c.args.hit c.item_at-asked.result c.item_at-asked.ensures (c.loop-upto.upto - 1) c.item_at-upto.result c.loop-upto.upto c.item_at-put.result (omega arith) link c.item_at-put.ensures (omega arith))
          c.loop-upto.invariant.best;
    }

pub with_put-best-requires-clause-within : goal.with_put-best-requires-clause-within
with_put-best-requires-clause-within c = slice_get_within c.args.steps.now c.args.hit c.requires.unsure.step c.requires.unsure.at

pub with_put-best-requires-clause-put : goal.with_put-best-requires-clause-put
with_put-best-requires-clause-put c = position_within c.args.steps.now c.args.puts.now c.requires.puts (c.loop-upto.upto - 1) c.item_at-put.result c.item_at-put.ensures

pub loop-upto-preserved : goal.loop-upto-preserved
loop-upto-preserved c =
    let low = c.last.ensures in
    let rank = c.value_rank-least.ensures in
    let not = c.if-last-least.false in
    let within = c.loop-upto.invariant.within in
    let kind : c.item_at-asked.result.kind ≡ kinds.Hit = ap (λ (s : NumberedCall). s.kind) (same_at c.args.steps.now c.args.hit c.args.hit c.item_at-asked.result c.requires.unsure.step refl c.item_at-asked.ensures c.requires.unsure.at) ∙ c.requires.unsure.kind in
    let split = subst (λ r. IsSplit put_rank c.args.puts.now r c.puts_upto-upto.result) c.value_rank.ensures c.puts_upto-upto.ensures in
    record {
      within = omega arith;
      best = more c.args.steps.now c.args.puts.now c.requires.puts c.requires.fit c.args.hit c.item_at-asked.result c.item_at-asked.ensures c.args.groups.now.owners.items c.args.rule (length c.args.puts.now) (c.loop-upto.upto - 1) c.item_at-put.result c.loop-upto.best c.with_put-best.result c.item_at-put.ensures
          (λ live. can_have_read c.args.steps.now c.args.puts.now c.requires.puts c.requires.fit c.args.hit c.item_at-asked.result c.item_at-asked.ensures (c.loop-upto.upto - 1) c.puts_upto-upto.result c.item_at-put.result kind split (omega arith) c.item_at-put.ensures (omega arith) live)
          c.with_put-best.ensures
          (subst (λ u. IsBestOffer c.args.steps.now c.args.puts.now c.args.groups.now.owners.items c.args.rule c.args.hit u (length c.args.puts.now) c.loop-upto.best) (omega arith) c.loop-upto.invariant.best);
    }
