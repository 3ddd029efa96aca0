use Rattle.std.proofs.Common.{◌≡◌, ◌+◌, true, false, subst, arith}
use Rattle.certificate_finder.specs.Deciding.{IsMixOf}
use Rattle.certificate_finder.specs.Lining.{positions_in}
use Rattle.certificate_finder.proofs.MixLemmas.{mix_more, mix_whole}
use Rattle.certificate_finder.proofs.deciding.mixed.Goals as goal

pub returns-then-not-is_stuck : goal.returns-then-not-is_stuck
returns-then-not-is_stuck c = mix_whole c.args.steps.now c.args.owners.now (positions_in c.args.hits.now) (c.loop-index.index + 1) 5 c.try_rule.new.mix (mix_more c.args.steps.now c.args.owners.now (positions_in c.args.hits.now) c.loop-index.index c.rule_at-rule.result c.loop-index.mix c.try_rule.new.mix c.loop-index.invariant c.rule_at-rule.ensures c.in_ok-try_rule.ensures) (λ some. let h : false ≡ true = c.if-not-is_stuck.ensures.1 some in cc)

pub loop-index-preserved : goal.loop-index-preserved
loop-index-preserved c = mix_more c.args.steps.now c.args.owners.now (positions_in c.args.hits.now) c.loop-index.index c.rule_at-rule.result c.loop-index.mix c.try_rule.new.mix c.loop-index.invariant c.rule_at-rule.ensures c.in_ok-try_rule.ensures

pub returns : goal.returns
returns c = subst (λ n. IsMixOf c.args.steps.now c.args.owners.now (positions_in c.args.hits.now) n c.loop-index.mix) (omega arith) c.loop-index.invariant
