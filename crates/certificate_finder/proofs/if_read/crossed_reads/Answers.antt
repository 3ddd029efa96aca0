use Rattle.std.proofs.Common.{◌≡◌, ◌-◌, refl, sym, ap, ◌∙◌, subst, arith}
use Rattle.std.proofs.lemmas.Option.{slice_get_within}
use Rattle.trace_file.specs.declared.call_kind.CallKind.TheVariants as kinds
use Rattle.certificate_finder.specs.declared.numbered_call.NumberedCall.{NumberedCall}
use Rattle.certificate_finder.specs.Putting.{put_rank}
use Rattle.certificate_finder.specs.Unreading.{AreReadsFrom}
use Rattle.certificate_finder.specs.Writing.{IsSplit}
use Rattle.certificate_finder.proofs.ChoosingLemmas.{can_have_read, live_at, none_standing, not_begun, position_within}
use Rattle.certificate_finder.proofs.Listing.{same_at}
use Rattle.certificate_finder.proofs.UnreadLemmas.{all_reads, looked_no, looked_on, reads_begin, reads_skip}
use Rattle.certificate_finder.proofs.if_read.crossed_reads.Goals as goal

pub item_at-asked-requires : goal.item_at-asked-requires
item_at-asked-requires c = slice_get_within c.args.steps.now c.args.hit c.requires.unsure.step c.requires.unsure.at

pub loop-upto-init : goal.loop-upto-init
loop-upto-init c = record {
  within = omega arith;
  reads = subst (AreReadsFrom c.args.steps.now c.args.groups.now.owners.items c.args.hit c.args.linked.puts.now c.puts_upto-upto.result) (sym c.new-reads.ensures.items) (reads_begin c.args.steps.now c.args.groups.now.owners.items c.args.hit c.args.linked.puts.now c.puts_upto-upto.result
      (λ k put low at. not_begun c.args.steps.now c.args.linked.puts.now c.requires.puts c.requires.fit c.args.hit c.item_at-asked.result c.item_at-asked.ensures k c.puts_upto-upto.result put (subst (λ r. IsSplit put_rank c.args.linked.puts.now r c.puts_upto-upto.result) c.value_rank.ensures c.puts_upto-upto.ensures) low at));
}

pub loop-upto-preserved-then-last-least : goal.loop-upto-preserved-then-last-least
loop-upto-preserved-then-last-least c =
    let link = c.requires.links.each (c.loop-upto.upto - 1) c.item_at-upto.result c.item_at-upto.ensures in
    let low = c.last.ensures in
    let rank = c.value_rank-least.ensures in
    let less = c.if-last-least.true in
    let back = link.back in
    let within = c.loop-upto.invariant.within in
    record {
      within = omega arith;
      reads = reads_skip c.args.steps.now c.args.groups.now.owners.items c.args.hit c.args.linked.puts.now c.item_at-upto.result c.loop-upto.upto c.loop-upto.reads.items (omega arith)
          (none_standing c.args.steps.now c.args.linked.puts.now c.requires.puts c.requires.fit c.args.hit c.item_at-asked.result c.item_at-asked.ensures (c.loop-upto.upto - 1) c.item_at-upto.result c.loop-upto.upto c.item_at-put.result (omega arith) link c.item_at-put.ensures (omega arith))
          c.loop-upto.invariant.reads;
    }

pub look_at-requires-clause-hit : goal.look_at-requires-clause-hit
look_at-requires-clause-hit c = slice_get_within c.args.steps.now c.args.hit c.requires.unsure.step c.requires.unsure.at

pub look_at-requires-clause-put : goal.look_at-requires-clause-put
look_at-requires-clause-put c = position_within c.args.steps.now c.args.linked.puts.now c.requires.puts (c.loop-upto.upto - 1) c.item_at-put.result c.item_at-put.ensures

pub returns-then-not-branch : goal.returns-then-not-branch
returns-then-not-branch c =
    let low = c.last.ensures in
    let rank = c.value_rank-least.ensures in
    let not = c.if-last-least.false in
    let within = c.loop-upto.invariant.within in
    let kind : c.item_at-asked.result.kind ≡ kinds.Hit = ap (λ (s : NumberedCall). s.kind) (same_at c.args.steps.now c.args.hit c.args.hit c.item_at-asked.result c.requires.unsure.step refl c.item_at-asked.ensures c.requires.unsure.at) ∙ c.requires.unsure.kind in
    let split = subst (λ r. IsSplit put_rank c.args.linked.puts.now r c.puts_upto-upto.result) c.value_rank.ensures c.puts_upto-upto.ensures in
    looked_no c.args.steps.now c.args.groups.now.owners.items c.args.hit c.args.linked.puts.now (c.loop-upto.upto - 1) c.loop-upto.upto c.item_at-put.result c.item_at-asked.result (omega arith) c.item_at-put.ensures c.item_at-asked.ensures
    (λ live. can_have_read c.args.steps.now c.args.linked.puts.now c.requires.puts c.requires.fit c.args.hit c.item_at-asked.result c.item_at-asked.ensures (c.loop-upto.upto - 1) c.puts_upto-upto.result c.item_at-put.result kind split (omega arith) c.item_at-put.ensures (omega arith) live)
    (live_at c.args.steps.now c.args.linked.puts.now c.requires.puts c.requires.fit c.args.hit c.item_at-asked.result c.item_at-asked.ensures (c.loop-upto.upto - 1) c.item_at-put.result c.item_at-put.ensures)
    c.in_ok-look_at.field-0 c.loop-upto.reads.items c.look_at.new.reads.items c.if-not-branch.true c.in_ok-look_at.ensures

pub loop-upto-preserved : goal.loop-upto-preserved
loop-upto-preserved c =
    let low = c.last.ensures in
    let rank = c.value_rank-least.ensures in
    let not = c.if-last-least.false in
    let within = c.loop-upto.invariant.within in
    let kind : c.item_at-asked.result.kind ≡ kinds.Hit = ap (λ (s : NumberedCall). s.kind) (same_at c.args.steps.now c.args.hit c.args.hit c.item_at-asked.result c.requires.unsure.step refl c.item_at-asked.ensures c.requires.unsure.at) ∙ c.requires.unsure.kind in
    let split = subst (λ r. IsSplit put_rank c.args.linked.puts.now r c.puts_upto-upto.result) c.value_rank.ensures c.puts_upto-upto.ensures in
    record {
      within = omega arith;
      reads = looked_on c.args.steps.now c.args.groups.now.owners.items c.args.hit c.args.linked.puts.now (c.loop-upto.upto - 1) c.loop-upto.upto c.item_at-put.result c.item_at-asked.result (omega arith) c.item_at-put.ensures c.item_at-asked.ensures
          (λ live. can_have_read c.args.steps.now c.args.linked.puts.now c.requires.puts c.requires.fit c.args.hit c.item_at-asked.result c.item_at-asked.ensures (c.loop-upto.upto - 1) c.puts_upto-upto.result c.item_at-put.result kind split (omega arith) c.item_at-put.ensures (omega arith) live)
          (live_at c.args.steps.now c.args.linked.puts.now c.requires.puts c.requires.fit c.args.hit c.item_at-asked.result c.item_at-asked.ensures (c.loop-upto.upto - 1) c.item_at-put.result c.item_at-put.ensures)
          c.requires.puts.in_order.distinct c.in_ok-look_at.field-0 c.loop-upto.reads.items c.look_at.new.reads.items c.if-not-branch.false c.in_ok-look_at.ensures c.loop-upto.invariant.reads;
    }

pub returns : goal.returns
returns c = all_reads c.args.steps.now c.args.groups.now.owners.items c.args.hit c.args.linked.puts.now c.requires.puts c.loop-upto.reads.items (subst (λ n. AreReadsFrom c.args.steps.now c.args.groups.now.owners.items c.args.hit c.args.linked.puts.now n c.loop-upto.reads.items) (omega arith) c.loop-upto.invariant.reads)
