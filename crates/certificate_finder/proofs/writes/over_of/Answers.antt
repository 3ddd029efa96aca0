use Rattle.std.proofs.Common.{subst, arith}
use Rattle.certificate_finder.specs.Writing.{IsSplit, write_rank}
use Rattle.certificate_finder.proofs.WriteLemmas.{none_past, none_other, some_over, later_within}
use Rattle.certificate_finder.proofs.writes.over_of.Goals as goal

pub returns-then-index-writes : goal.returns-then-index-writes
returns-then-index-writes c = none_past c.args.writes.now c.requires.sorted c.requires.fit c.writes_upto-index.result c.args.step.now.key c.args.step.now.end (subst (λ l. IsSplit write_rank c.args.writes.now l c.writes_upto-index.result) c.key_rank.ensures c.writes_upto-index.ensures) (omega arith)

pub returns-then-write-step : goal.returns-then-write-step
returns-then-write-step c = none_other c.args.writes.now c.requires.sorted c.requires.fit c.writes_upto-index.result c.args.step.now.key c.args.step.now.end c.item_at-write.result (subst (λ l. IsSplit write_rank c.args.writes.now l c.writes_upto-index.result) c.key_rank.ensures c.writes_upto-index.ensures) c.item_at-write.ensures c.if-write-step.true (omega arith)

pub returns : goal.returns
returns c = some_over c.args.writes.now c.requires.sorted c.requires.fit c.writes_upto-index.result c.item_at-best.result c.args.step.now.key c.args.step.now.end c.item_at-write.result c.item_at-first.result (subst (λ l. IsSplit write_rank c.args.writes.now l c.writes_upto-index.result) c.key_rank.ensures c.writes_upto-index.ensures) c.item_at-write.ensures c.if-write-step.false (c.requires.soonest.each c.writes_upto-index.result c.item_at-best.result (omega arith) c.item_at-best.ensures) c.item_at-first.ensures

pub item_at-first-requires : goal.item_at-first-requires
item_at-first-requires c = later_within c.args.writes.now c.writes_upto-index.result c.item_at-best.result (c.requires.soonest.each c.writes_upto-index.result c.item_at-best.result (omega arith) c.item_at-best.ensures)

pub item_at-best-requires : goal.item_at-best-requires
item_at-best-requires c = let count = c.requires.soonest.count in let b = c.writes_upto-index.ensures.bound in omega arith

pub item_at-write-requires : goal.item_at-write-requires
item_at-write-requires c = let b = c.writes_upto-index.ensures.bound in omega arith
