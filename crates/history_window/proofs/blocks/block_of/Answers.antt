use Rattle.std.proofs.Common.{◌≡◌, true, false, sym, ◌∙◌}
use Rattle.history_window.proofs.BlockLemmas.{block_is}
use Rattle.history_window.proofs.blocks.block_of.Goals as goal

pub returns-then-not-code : goal.returns-then-not-code
returns-then-not-code c = λ blocks. (let both : true ≡ false = sym blocks.reads ∙ c.if-not-code.true in cc)

pub returns-in_default : goal.returns-in_default
returns-in_default c = λ blocks. c.in_default.ensures blocks.end blocks.early

pub returns-in_default-last_start : goal.returns-in_default-last_start
returns-in_default-last_start c = λ blocks. c.in_default-last_start.ensures blocks.start blocks.late

pub returns : goal.returns
returns c = block_is c.args.tables.now.codes.now c.args.code.now c.in-Some.end c.in-Some-last_start.start c.rank-foot.result c.rank-height.result c.if-not-code.false c.in-Some.ensures.0 c.in-Some.ensures.1 c.in-Some-last_start.ensures.0 c.in-Some-last_start.ensures.1 c.rank-foot.ensures c.rank-height.ensures
