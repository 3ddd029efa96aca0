use Rattle.history_window.proofs.CutLemmas.{stays_more}
use Rattle.history_window.proofs.ListLemmas.{contains_at}
use Rattle.history_window.proofs.windowing.window_by.Goals as goal

pub stays-test-requires-clause-listed : goal.stays-test-requires-clause-listed
stays-test-requires-clause-listed c = contains_at c.args.tables.now.codes.now c.loop-index.index c.code_at-code.result c.code_at-code.ensures

pub loop-index-preserved : goal.loop-index-preserved
loop-index-preserved c = stays_more c.args.tables.now.codes.now c.args.cuts.now.bound c.loop-index.index c.code_at-code.result c.loop-index.kept.items c.list_position.new.positions.items c.stays-test.result c.code_at-code.ensures c.loop-index.invariant c.in_ok-list_position.ensures c.stays-test.ensures.0 c.stays-test.ensures.1
