use Rattle.std.proofs.Common.{◌<◌, length, sym, subst}
use Rattle.std.specs.Prelude.{All, AllPairs, MatchOption}
use Rattle.certificate_finder.specs.Deciding.{MakesAccepted, NoneGives}
use Rattle.certificate_finder.specs.Owning.{AreSureOwners, IsUnsure}
use Rattle.certificate_finder.specs.Unreading.{HasOpen, IsFirstUnreadOf}
use Rattle.certificate_finder.proofs.FoundLemmas.{single_sure}
use Rattle.certificate_finder.proofs.Settling.{undecided}
use Rattle.certificate_finder.proofs.TryingLemmas.{none_tried}
use Rattle.certificate_finder.proofs.UnreadLemmas.{found_unread, none_unread}
use Rattle.certificate_finder.proofs.finding.chosen.Goals as goal

pub certificate_by_rules-requires-clause-owners : goal.certificate_by_rules-requires-clause-owners
certificate_by_rules-requires-clause-owners c = subst (λ us. AreSureOwners c.args.steps.now (length c.args.steps.now) c.args.owners.now us) (sym c.as_slice-doubtful.ensures.value) c.requires.owners

pub first_unread_of-requires-clause-owners : goal.first_unread_of-requires-clause-owners
first_unread_of-requires-clause-owners c = single_sure c.args.steps.now c.args.owners.now c.args.unsure.items c.requires.owners

pub first_unread_of-requires-clause-unsure : goal.first_unread_of-requires-clause-unsure
first_unread_of-requires-clause-unsure c = subst (λ us. All (IsUnsure c.args.steps.now) us) (sym c.as_slice-doubtful.ensures.value) c.requires.owners.are_unsure

pub first_unread_of-requires-clause-rise : goal.first_unread_of-requires-clause-rise
first_unread_of-requires-clause-rise c = subst (λ us. AllPairs (λ earlier later. earlier < later) us) (sym c.as_slice-doubtful.ensures.value) c.requires.owners.rise

pub returns-in-Some-2 : goal.returns-in-Some-2
returns-in-Some-2 c = λ history are forward.
    let steps = c.args.steps.now in
    let owners = c.args.owners.now in
    let unsure = c.args.unsure.items in
    found_unread history steps are owners unsure c.requires.owners c.requires.uncrossed c.in-Some-2.first
    (subst (λ o. MatchOption o (All (HasOpen steps owners) unsure) (IsFirstUnreadOf steps owners unsure)) c.in-Some-2.is
    (subst (λ us. MatchOption c.in_ok-first.field-0 (All (HasOpen steps owners) us) (IsFirstUnreadOf steps owners us)) c.as_slice-doubtful.ensures.value c.in_ok-first.ensures)) forward

pub returns-in-None : goal.returns-in-None
returns-in-None c = λ history are forward.
    let steps = c.args.steps.now in
    let owners = c.args.owners.now in
    let unsure = c.args.unsure.items in record {
      accepted = tt;
      rejected = tt;
      first = tt;
      undecided = undecided history steps are owners unsure c.requires.owners c.requires.uncrossed forward c.requires.some
          (none_tried history steps are owners unsure c.requires.owners
          (subst (λ us. NoneGives steps owners us) c.as_slice-doubtful.ensures.value
          (subst (λ o. MatchOption o (NoneGives steps owners c.as_slice-doubtful.result.now) (MakesAccepted steps)) c.in_default.is c.in_ok-by_rules.ensures)))
          (none_unread history steps are owners unsure c.requires.owners c.requires.uncrossed
          (subst (λ o. MatchOption o (All (HasOpen steps owners) unsure) (IsFirstUnreadOf steps owners unsure)) c.in-None.is
          (subst (λ us. MatchOption c.in_ok-first.field-0 (All (HasOpen steps owners) us) (IsFirstUnreadOf steps owners us)) c.as_slice-doubtful.ensures.value c.in_ok-first.ensures)));
    }
