use Rattle.std.proofs.Common.{◌<◌, length, sym, subst}
use Rattle.std.specs.Prelude.{All, AllPairs}
use Rattle.certificate_finder.specs.Excluding.{AreWrongAt}
use Rattle.certificate_finder.specs.Lining.{positions_in}
use Rattle.certificate_finder.specs.Owning.{AreSingle, IsRefused, IsUnsure}
use Rattle.certificate_finder.specs.Unreading.{AreUnreadOf}
use Rattle.certificate_finder.specs.Zones.{AreCrossedIn}
use Rattle.certificate_finder.proofs.CrossedLemmas.{crossed_writes}
use Rattle.certificate_finder.proofs.FoundLemmas.{single_known, single_owners_in}
use Rattle.certificate_finder.proofs.UnreadLemmas.{unread_known}
use Rattle.certificate_finder.proofs.WrongLemmas.{are_refused, wrong_hits}
use Rattle.certificate_finder.proofs.finding_faults.faults_of.Goals as goal

pub wrong_hits_of-requires-clause-refused : goal.wrong_hits_of-requires-clause-refused
wrong_hits_of-requires-clause-refused c =
    let reads = c.in_ok-reads.ensures in
    subst (λ ws. All (IsRefused c.args.steps.now) (positions_in ws)) (sym c.as_slice-wrong.ensures.value) (are_refused c.args.steps.now c.in_ok-reads.reads.owners c.in_ok-reads.reads.wrong.items reads.owners reads.wrong)

pub unread_hits_of-requires-clause-owners : goal.unread_hits_of-requires-clause-owners
unread_hits_of-requires-clause-owners c =
    let reads = c.in_ok-reads.ensures in
    subst (AreSingle c.args.steps.now) (sym c.as_slice-owned.ensures.value) (single_known c.args.steps.now c.in_ok-reads.reads.owners reads.owners)

pub unread_hits_of-requires-clause-unsure : goal.unread_hits_of-requires-clause-unsure
unread_hits_of-requires-clause-unsure c =
    let reads = c.in_ok-reads.ensures in
    subst (All (IsUnsure c.args.steps.now)) (sym c.as_slice-doubtful.ensures.value) reads.owners.unsure.each

pub unread_hits_of-requires-clause-rise : goal.unread_hits_of-requires-clause-rise
unread_hits_of-requires-clause-rise c =
    let reads = c.in_ok-reads.ensures in
    subst (AllPairs (λ earlier later. earlier < later)) (sym c.as_slice-doubtful.ensures.value) reads.owners.unsure.rise

pub crossed_of-requires-clause-within : goal.crossed_of-requires-clause-within
crossed_of-requires-clause-within c =
    let reads = c.in_ok-reads.ensures in
    subst (λ os. All (λ owner. owner < length c.args.steps.now) os) (sym c.as_slice-owned.ensures.value) (single_owners_in c.args.steps.now c.in_ok-reads.reads.owners.owners.items (single_known c.args.steps.now c.in_ok-reads.reads.owners reads.owners))

pub returns-clause-others : goal.returns-clause-others
returns-clause-others c =
    let reads = c.in_ok-reads.ensures in
    λ history are. record {
      hits = wrong_hits history c.args.steps.now are c.in_ok-reads.reads.owners c.args.most c.in_ok-reads.reads.wrong.items c.in_ok-hits.hits.items reads.owners reads.wrong (subst (λ ws. AreWrongAt c.args.steps.now c.args.most (positions_in ws) c.in_ok-hits.hits.items) c.as_slice-wrong.ensures.value c.in_ok-hits.ensures);
      crossed = crossed_writes history c.args.steps.now are c.in_ok-reads.reads.owners c.in_ok-crossed.crossed.items reads.owners (subst (λ os. AreCrossedIn c.args.steps.now os c.in_ok-crossed.crossed.items) c.as_slice-owned.ensures.value c.in_ok-crossed.ensures);
      unread = unread_known history c.args.steps.now are c.in_ok-reads.reads.owners reads.owners c.args.most c.in_ok-unread.unread.items
          (subst (λ os. AreUnreadOf c.args.steps.now os c.args.most c.in_ok-reads.reads.owners.unsure.items c.in_ok-unread.unread.items) c.as_slice-owned.ensures.value
          (subst (λ us. AreUnreadOf c.args.steps.now c.as_slice-owned.result.now c.args.most us c.in_ok-unread.unread.items) c.as_slice-doubtful.ensures.value c.in_ok-unread.ensures));
    }
