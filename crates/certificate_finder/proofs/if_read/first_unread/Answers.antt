use Rattle.std.proofs.Common.{arith, subst}
use Rattle.std.specs.Global.{Vec}
use Rattle.std.specs.Prelude.{MatchOption}
use Rattle.std.proofs.lemmas.List.{length-map}
use Rattle.certificate_finder.specs.declared.faults.CrossedWrites.{CrossedWrites}
use Rattle.certificate_finder.specs.declared.ranked.Ranked.{Ranked}
use Rattle.certificate_finder.specs.Lining.{positions_in}
use Rattle.certificate_finder.specs.Owning.{IsUnsure}
use Rattle.certificate_finder.specs.Unreading.{HasOpen, IsUnreadIn}
use Rattle.certificate_finder.proofs.InTurnLemmas.{position_at}
use Rattle.certificate_finder.proofs.Listing.{all_at}
use Rattle.certificate_finder.proofs.UnreadLemmas.{open_all, open_more}
use Rattle.certificate_finder.proofs.if_read.first_unread.Goals as goal

pub loop-index-init : goal.loop-index-init
loop-index-init c = λ k hit less at. absurd (omega arith)

pub crossed_reads-requires-clause-unsure : goal.crossed_reads-requires-clause-unsure
crossed_reads-requires-clause-unsure c = all_at (IsUnsure c.args.steps.now) (positions_in c.args.hits.now) c.loop-index.index c.item_at-hit.result.position c.requires.unsure (position_at c.args.hits.now c.loop-index.index c.item_at-hit.result c.item_at-hit.ensures)

pub loop-index-preserved : goal.loop-index-preserved
loop-index-preserved c =
    let steps = c.args.steps.now in
    let owners = c.args.groups.now.owners.items in
    let hit = c.item_at-hit.result.position in
    open_more steps owners (positions_in c.args.hits.now) c.loop-index.index hit c.loop-index.invariant (position_at c.args.hits.now c.loop-index.index c.item_at-hit.result c.item_at-hit.ensures)
    (subst (λ o. MatchOption o (HasOpen steps owners hit) (λ (listed : Vec CrossedWrites). IsUnreadIn steps owners hit listed.items)) c.in_default.is c.in_ok-listed.ensures)

pub returns : goal.returns
returns c =
    let count = length-map c.args.hits.now (λ (r : Ranked). r.position) in
    open_all c.args.steps.now c.args.groups.now.owners.items (positions_in c.args.hits.now) c.loop-index.index (omega (arith, count)) c.loop-index.invariant
