use Rattle.std.proofs.Common.{ap, ◌∙◌, arith}
use Rattle.std.proofs.lemmas.List.{take_all}
use Rattle.certificate_finder.specs.Lining.{positions_in}
use Rattle.certificate_finder.proofs.SpotLemmas.{certificate_more}
use Rattle.certificate_finder.proofs.line.certificate_of.Goals as goal

pub loop-index-preserved : goal.loop-index-preserved
loop-index-preserved c = certificate_more c.args.spots.now c.loop-index.index c.item_at-spot.result c.loop-index.certificate _ c.in_ok-push.ensures.ok c.loop-index.invariant c.item_at-spot.ensures

pub returns : goal.returns
returns c = c.loop-index.invariant ∙ ap positions_in (take_all c.loop-index.index c.args.spots.now (omega arith))
