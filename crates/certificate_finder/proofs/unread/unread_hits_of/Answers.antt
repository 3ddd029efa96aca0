use Rattle.std.proofs.Common.{◌<◌, length, sym, subst}
use Rattle.std.specs.Prelude.{All, AllPairs}
use Rattle.std.proofs.lemmas.List.Elements.{All-weaker}
use Rattle.std.proofs.lemmas.Option.{slice_get_within}
use Rattle.certificate_finder.specs.declared.stamp.Stamp.TheVariants.{End}
use Rattle.certificate_finder.specs.Choosing.{IsEarlierBy}
use Rattle.certificate_finder.specs.Lining.{positions_in}
use Rattle.certificate_finder.specs.Offering.{stamp_at}
use Rattle.certificate_finder.specs.Owning.{IsUnsure}
use Rattle.certificate_finder.specs.Unreading.{AreUnreadUpto}
use Rattle.certificate_finder.proofs.FoundLemmas.{single_owners_in}
use Rattle.certificate_finder.proofs.UnreadLemmas.{all_unread, ranked_unsure}
use Rattle.certificate_finder.proofs.unread.unread_hits_of.Goals as goal

pub of-requires-clause-within : goal.of-requires-clause-within
of-requires-clause-within c = single_owners_in c.args.steps.now c.args.owners.now c.requires.owners

pub by_ends_of-requires-clause-within : goal.by_ends_of-requires-clause-within
by_ends_of-requires-clause-within c = single_owners_in c.args.steps.now c.args.owners.now c.requires.owners

pub hits_in_turn-requires-clause-within : goal.hits_in_turn-requires-clause-within
hits_in_turn-requires-clause-within c = All-weaker (IsUnsure c.args.steps.now) (λ hit. hit < length c.args.steps.now) (λ hit is. slice_get_within c.args.steps.now hit is.step is.at) c.args.unsure.now c.requires.unsure

pub unread_among-requires-clause-unsure : goal.unread_among-requires-clause-unsure
unread_among-requires-clause-unsure c = subst (λ hits. All (IsUnsure c.args.steps.now) (positions_in hits)) (sym c.as_slice-ranked.ensures.value) (ranked_unsure c.args.steps.now c.args.unsure.now c.in_ok-hits.hits.items c.in_ok-hits.ensures c.requires.unsure)

pub unread_among-requires-clause-order : goal.unread_among-requires-clause-order
unread_among-requires-clause-order c = subst (λ hits. AllPairs (IsEarlierBy (stamp_at End c.args.steps.now)) (positions_in hits)) (sym c.as_slice-ranked.ensures.value) c.in_ok-hits.ensures.order

pub returns-in-Ok : goal.returns-in-Ok
returns-in-Ok c = all_unread c.args.steps.now c.args.owners.now c.args.most c.args.unsure.now c.in_ok-hits.hits.items c.in-Ok.found.items c.in_ok-hits.ensures
    (subst (λ os. AreUnreadUpto c.args.steps.now os c.args.most (positions_in c.in_ok-hits.hits.items) (length c.in_ok-hits.hits.items) c.in-Ok.found.items) c.in_ok-groups.ensures.owners
    (subst (λ hits. AreUnreadUpto c.args.steps.now c.in_ok-groups.groups.owners.items c.args.most (positions_in hits) (length hits) c.in-Ok.found.items) c.as_slice-ranked.ensures.value c.in-Ok.ensures))
