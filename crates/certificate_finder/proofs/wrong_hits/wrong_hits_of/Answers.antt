use Rattle.std.proofs.Common.{◌+◌, sym, subst, take, arith}
use Rattle.certificate_finder.specs.Excluding.{AreWrongAt}
use Rattle.certificate_finder.specs.Lining.{positions_in}
use Rattle.certificate_finder.specs.Owning.{IsRefused}
use Rattle.certificate_finder.proofs.WrongLemmas.{all_wrong, wrong_begin, wrong_more}
use Rattle.certificate_finder.proofs.InTurnLemmas.{position_at}
use Rattle.certificate_finder.proofs.Listing.{all_at}
use Rattle.certificate_finder.proofs.wrong_hits.wrong_hits_of.Goals as goal

pub loop-index-init : goal.loop-index-init
loop-index-init c = subst (AreWrongAt c.args.steps.now c.args.most (take 0 (positions_in c.args.wrong.now))) (sym c.new-hits.ensures.items) (wrong_begin c.args.steps.now c.args.most c.args.wrong.now)

pub wrong_hit_of-requires-clause-refused : goal.wrong_hit_of-requires-clause-refused
wrong_hit_of-requires-clause-refused c = all_at (IsRefused c.args.steps.now) (positions_in c.args.wrong.now) c.loop-index.index c.item_at-position.result.position c.requires.refused (position_at c.args.wrong.now c.loop-index.index c.item_at-position.result c.item_at-position.ensures)

pub loop-index-preserved : goal.loop-index-preserved
loop-index-preserved c = subst (λ hits. AreWrongAt c.args.steps.now c.args.most (take (c.loop-index.index + 1) (positions_in c.args.wrong.now)) hits) (sym c.in_ok-push.ensures.items) (wrong_more c.args.steps.now c.args.most c.args.wrong.now c.loop-index.index c.item_at-position.result c.loop-index.hits.items c.in_ok-hit.hit c.loop-index.invariant c.item_at-position.ensures c.in_ok-hit.ensures.hit c.in_ok-hit.ensures.wrong)

pub returns : goal.returns
returns c = all_wrong c.args.steps.now c.args.most c.args.wrong.now c.loop-index.index c.loop-index.hits.items c.loop-index.invariant (omega arith)
