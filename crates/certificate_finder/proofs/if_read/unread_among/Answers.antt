use Rattle.std.proofs.Common.{◌+◌, ◌∙◌, ap, sym, subst, take}
use Rattle.std.specs.Global.{Vec}
use Rattle.std.specs.Prelude.{MatchOption}
use Rattle.certificate_finder.specs.declared.faults.CrossedWrites.{CrossedWrites}
use Rattle.certificate_finder.specs.declared.unread_hit.UnreadHit.{UnreadHit}
use Rattle.certificate_finder.specs.Lining.{positions_in}
use Rattle.certificate_finder.specs.Owning.{IsUnsure}
use Rattle.certificate_finder.specs.Unreading.{AreUnreadUpto, HasOpen, IsUnreadIn}
use Rattle.certificate_finder.proofs.InTurnLemmas.{position_at}
use Rattle.certificate_finder.proofs.Listing.{all_at}
use Rattle.certificate_finder.proofs.UnreadLemmas.{unread_more, unread_pass}
use Rattle.certificate_finder.proofs.if_read.unread_among.Goals as goal
use Rattle.certificate_finder.proofs.if_read.unread_among.Goals.{in-Some+in_ok-reads+in_ok-push, in_default}

pub crossed_reads-requires-clause-unsure : goal.crossed_reads-requires-clause-unsure
crossed_reads-requires-clause-unsure c = all_at (IsUnsure c.args.steps.now) (positions_in c.args.hits.now) c.loop-index.index c.item_at-hit.result.position c.requires.unsure (position_at c.args.hits.now c.loop-index.index c.item_at-hit.result c.item_at-hit.ensures)

pub loop-index-preserved : goal.loop-index-preserved
loop-index-preserved c =
    let steps = c.args.steps.now in
    let owners = c.args.groups.now.owners.items in
    let most = c.args.most in
    let hits = positions_in c.args.hits.now in
    let hit = c.item_at-hit.result.position in
    let at = position_at c.args.hits.now c.loop-index.index c.item_at-hit.result c.item_at-hit.ensures in
    elim c.match-listed.branch [
      | in-Some+in_ok-reads+in_ok-push w ↦ subst (λ (f : Vec UnreadHit). AreUnreadUpto steps owners most hits (c.loop-index.index + 1) f.items) (sym w.found-is)
          (unread_more steps owners most hits c.loop-index.index c.loop-index.found.items w.push.new.self.items (record { hit = hit; reads = w.in_ok-reads.reads }) c.requires.order at
          (record {
            reads = w.in-Some.reads.items;
            is = subst (λ o. MatchOption o (HasOpen steps owners hit) (λ (listed : Vec CrossedWrites). IsUnreadIn steps owners hit listed.items)) w.in-Some.is c.in_ok-listed.ensures;
            first = w.in_ok-reads.ensures ∙ ap (take most) w.as_slice.ensures.value;
          })
          w.in_ok-push.ensures.items c.loop-index.invariant)
      | in_default w ↦ subst (λ (f : Vec UnreadHit). AreUnreadUpto steps owners most hits (c.loop-index.index + 1) f.items) (sym w.found-is)
          (unread_pass steps owners most hits c.loop-index.index hit c.loop-index.found.items at
          (subst (λ o. MatchOption o (HasOpen steps owners hit) (λ (listed : Vec CrossedWrites). IsUnreadIn steps owners hit listed.items)) w.in_default.is c.in_ok-listed.ensures)
          c.loop-index.invariant)
    ]
