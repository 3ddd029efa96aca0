use Rattle.std.proofs.Common.{sym, subst}
use Rattle.certificate_finder.specs.Lists.{GrowsIf}
use Rattle.history_window.specs.Cuts.{AreCutTurns}
use Rattle.history_window.proofs.CutLemmas.{cuts_begin, cuts_more}
use Rattle.history_window.proofs.ListLemmas.{contains_at}
use Rattle.history_window.proofs.cuts.listed_cuts.Goals as goal

pub loop-index-init : goal.loop-index-init
loop-index-init c = subst (λ turns. AreCutTurns c.args.tables.now.codes.now c.args.bound 0 turns) (sym c.new-turns.ensures.items) (cuts_begin c.args.tables.now.codes.now c.args.bound)

pub is_cut-cut-requires-clause-listed : goal.is_cut-cut-requires-clause-listed
is_cut-cut-requires-clause-listed c = contains_at c.args.tables.now.codes.now c.loop-index.index c.code_at-code.result c.code_at-code.ensures

pub loop-index-preserved : goal.loop-index-preserved
loop-index-preserved c = cuts_more c.args.tables.now.codes.now c.args.bound c.loop-index.index c.code_at-code.result c.loop-index.turns.items c.list_turn.new.turns.items c.is_cut-cut.result c.loop-index.invariant c.code_at-code.ensures (contains_at c.args.tables.now.codes.now c.loop-index.index c.code_at-code.result c.code_at-code.ensures) c.is_cut-cut.ensures.0 c.is_cut-cut.ensures.1 (subst (λ n. GrowsIf c.is_cut-cut.result n c.loop-index.turns.items c.list_turn.new.turns.items) c.first_turn-own.ensures c.in_ok-list_turn.ensures)
