use Rattle.history_window.proofs.BlockLemmas.{are_blocks}
use Rattle.history_window.proofs.blocks.blocks_of.Goals as goal

pub returns-in-Ok : goal.returns-in-Ok
returns-in-Ok c = are_blocks c.args.tables.now.codes.now c.in_ok-made.made.items c.in-Ok.blocks c.in_ok-made.ensures c.in-Ok.ensures
