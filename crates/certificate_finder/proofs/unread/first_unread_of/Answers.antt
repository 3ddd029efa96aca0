use Rattle.std.proofs.Common.{◌<◌, length, sym, subst}
use Rattle.std.specs.Prelude.{All, MatchOption}
use Rattle.std.proofs.lemmas.List.Elements.{All-weaker}
use Rattle.std.proofs.lemmas.Option.{slice_get_within}
use Rattle.certificate_finder.specs.Lining.{positions_in}
use Rattle.certificate_finder.specs.Owning.{IsUnsure}
use Rattle.certificate_finder.specs.Unreading.{HasOpen, IsFirstUnreadIn}
use Rattle.certificate_finder.proofs.FoundLemmas.{single_owners_in}
use Rattle.certificate_finder.proofs.UnreadLemmas.{first_found, ranked_unsure}
use Rattle.certificate_finder.proofs.unread.first_unread_of.Goals as goal

pub of-requires-clause-within : goal.of-requires-clause-within
of-requires-clause-within c = single_owners_in c.args.steps.now c.args.owners.now c.requires.owners

pub by_ends_of-requires-clause-within : goal.by_ends_of-requires-clause-within
by_ends_of-requires-clause-within c = single_owners_in c.args.steps.now c.args.owners.now c.requires.owners

pub hits_in_turn-requires-clause-within : goal.hits_in_turn-requires-clause-within
hits_in_turn-requires-clause-within c = All-weaker (IsUnsure c.args.steps.now) (λ hit. hit < length c.args.steps.now) (λ hit is. slice_get_within c.args.steps.now hit is.step is.at) c.args.unsure.now c.requires.unsure

pub first_unread-requires-clause-unsure : goal.first_unread-requires-clause-unsure
first_unread-requires-clause-unsure c = subst (λ hits. All (IsUnsure c.args.steps.now) (positions_in hits)) (sym c.as_slice-ranked.ensures.value) (ranked_unsure c.args.steps.now c.args.unsure.now c.in_ok-hits.hits.items c.in_ok-hits.ensures c.requires.unsure)

pub returns-in-Ok : goal.returns-in-Ok
returns-in-Ok c =
    let steps = c.args.steps.now in
    let owners = c.args.owners.now in
    let hits = c.in_ok-hits.hits.items in
    let found = c.in-Ok.found in
    first_found steps owners c.args.unsure.now hits found c.in_ok-hits.ensures
    (subst (λ os. MatchOption found (All (HasOpen steps os) (positions_in hits)) (IsFirstUnreadIn steps os (positions_in hits))) c.in_ok-groups.ensures.owners
    (subst (λ ranked. MatchOption found (All (HasOpen steps c.in_ok-groups.groups.owners.items) (positions_in ranked)) (IsFirstUnreadIn steps c.in_ok-groups.groups.owners.items (positions_in ranked))) c.as_slice-ranked.ensures.value c.in-Ok.ensures))
