use Rattle.history_window.proofs.CutLemmas.{are_cuts}
use Rattle.history_window.proofs.cuts.cuts_of.Goals as goal

pub returns-clause-cuts : goal.returns-clause-cuts
returns-clause-cuts c = are_cuts c.args.tables.now.codes.now c.in_ok-made.made.items (record { bound = c.args.bound; turns = c.sort_ranks-turns.result }) c.in_ok-made.ensures c.sort_ranks-turns.ensures
