use Rattle.std.proofs.Common.{◌≡◌, length, refl, ap, ◌∙◌, subst, arith, rules}
use Rattle.std.proofs.lemmas.Option.{slice_get_within}
use Rattle.certificate_finder.specs.declared.numbered_call.NumberedCall.{NumberedCall}
use Rattle.certificate_finder.specs.Putting.{put_rank, value_rank}
use Rattle.certificate_finder.specs.Writing.{IsSplit}
use Rattle.certificate_finder.proofs.AskLemmas.{all_read, call_of, goes_up, read_begins, read_more}
use Rattle.certificate_finder.proofs.Listing.{same_at}
use Rattle.certificate_finder.proofs.readings.readings_by.Goals as goal

pub loop-index-init : goal.loop-index-init
loop-index-init c =
    let nodes = c.as_mut_slice-nodes.ensures.value ∙ c.in_ok-tree.ensures.items_if_clones_equal (λ y same. same) in
    let count : length c.in_ok-readings.readings.items ≡ length c.args.steps.now = search rules in
    read_begins c.args.steps.now c.args.leaved.puts.now c.args.leaved.leaves.now c.over-shape.result c.args.asked.now c.as_mut_slice-nodes.result.now c.in_ok-readings.readings.items nodes count

pub reading_of-reading-requires-clause-order : goal.reading_of-reading-requires-clause-order
reading_of-reading-requires-clause-order c = goes_up c.args.steps.now c.args.leaved.puts.now c.args.leaved.leaves.now c.over-shape.result c.args.asked.now c.requires.asked c.loop-index.index c.loop-index.taken c.loop-index.nodes c.loop-index.readings.items c.loop-index.invariant c.item_at-hit.result c.item_at-hit.ensures c.puts_upto-upto.result c.puts_upto-upto.ensures

pub reading_of-reading-requires-clause-begun : goal.reading_of-reading-requires-clause-begun
reading_of-reading-requires-clause-begun c =
    let call = call_of c.args.steps.now c.args.leaved.puts.now c.args.leaved.leaves.now c.over-shape.result c.args.asked.now c.requires.asked c.loop-index.index c.item_at-hit.result c.item_at-hit.ensures in
    let same : call.0 ≡ c.item_at-step.result = same_at c.args.steps.now c.item_at-hit.result.position c.item_at-hit.result.position call.0 c.item_at-step.result refl call.1 c.item_at-step.ensures in
    subst (λ r. IsSplit put_rank c.args.leaved.puts.now r c.puts_upto-upto.result) (call.2 ∙ ap (λ (s : NumberedCall). value_rank s.key s.value s.end) same) c.puts_upto-upto.ensures

pub index_mut-requires : goal.index_mut-requires
index_mut-requires c = let within = slice_get_within c.args.steps.now c.item_at-hit.result.position c.item_at-step.result c.item_at-step.ensures in let count = c.loop-index.invariant.count in omega arith

pub loop-index-preserved : goal.loop-index-preserved
loop-index-preserved c = read_more c.args.steps.now c.args.leaved.puts.now c.args.leaved.leaves.now c.over-shape.result c.args.asked.now c.requires.asked c.loop-index.index c.loop-index.taken c.loop-index.nodes c.loop-index.readings.items c.loop-index.invariant c.item_at-hit.result c.item_at-hit.ensures c.puts_upto-upto.result c.puts_upto-upto.ensures c.item_at-step.result c.reading_of-reading.result c.reading_of-reading.new.nodes c.item_at-step.ensures (omega arith) c.reading_of-reading.ensures.among c.reading_of-reading.ensures.tree c.reading_of-reading.ensures.reading

pub returns : goal.returns
returns c = all_read c.args.steps.now c.args.leaved.puts.now c.args.leaved.leaves.now c.over-shape.result c.args.asked.now c.requires.asked c.loop-index.index c.loop-index.taken c.loop-index.nodes c.loop-index.readings.items c.loop-index.invariant (omega arith)
