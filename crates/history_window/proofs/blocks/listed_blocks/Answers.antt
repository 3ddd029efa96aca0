use Rattle.std.proofs.Common.{sym, subst}
use Rattle.history_window.specs.Codes.{IsFitCode}
use Rattle.history_window.specs.Reaches.{AreBlocksBelow}
use Rattle.history_window.proofs.BlockLemmas.{blocks_begin, blocks_more}
use Rattle.history_window.proofs.ListLemmas.{all_at, contains_at}
use Rattle.history_window.proofs.blocks.listed_blocks.Goals as goal

pub loop-index-init : goal.loop-index-init
loop-index-init c = subst (λ peaks. AreBlocksBelow c.args.tables.now.codes.now 0 peaks) (sym c.new-peaks.ensures.items) (blocks_begin c.args.tables.now.codes.now)

pub block_of-block-requires-clause-fit : goal.block_of-block-requires-clause-fit
block_of-block-requires-clause-fit c = all_at IsFitCode c.args.tables.now.codes.now c.loop-index.index c.code_at-code.result c.requires.sound.fit c.code_at-code.ensures

pub loop-index-preserved : goal.loop-index-preserved
loop-index-preserved c = blocks_more c.args.tables.now.codes.now c.loop-index.index c.code_at-code.result c.code_at-code.ensures (contains_at c.args.tables.now.codes.now c.loop-index.index c.code_at-code.result c.code_at-code.ensures) c.loop-index.peaks.items c.list_peak.new.peaks.items c.loop-index.invariant c.block_of-block.result c.block_of-block.ensures c.in_ok-list_peak.ensures
