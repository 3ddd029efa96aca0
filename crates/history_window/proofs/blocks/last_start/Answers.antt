use Rattle.std.proofs.Common.{sym, subst}
use Rattle.std.specs.List.Sorted.{IsNonDecreasingBy}
use Rattle.certificate_finder.specs.Leaves.{itself}
use Rattle.history_window.specs.Ranks.{IsStampUpto}
use Rattle.history_window.proofs.BlockLemmas.{late_of, of_late}
use Rattle.history_window.proofs.blocks.last_start.Goals as goal

pub last_upto-requires : goal.last_upto-requires
last_upto-requires c = subst (λ starts. IsNonDecreasingBy itself starts) (sym c.as_slice-starts.ensures.value) c.requires.tables.hits.starts.rise

pub returns-in-Some : goal.returns-in-Some
returns-in-Some c = (
  late_of c.args.tables.now.codes.now c.requires.tables.sound.fit c.args.tables.now.hits c.requires.tables.hits c.args.code.now c.requires.fit c.in-Some.start (subst (λ starts. IsStampUpto starts c.args.code.now.value c.args.code.now.end c.in-Some.start) c.as_slice-starts.ensures.value c.in-Some.ensures.0),
  λ n is. c.in-Some.ensures.1 n (subst (λ starts. IsStampUpto starts c.args.code.now.value c.args.code.now.end n) (sym c.as_slice-starts.ensures.value) (of_late c.args.tables.now.codes.now c.requires.tables.sound.fit c.args.tables.now.hits c.requires.tables.hits c.args.code.now c.requires.fit n is)),
)

pub returns-in-None : goal.returns-in-None
returns-in-None c = λ n is. c.in-None.ensures n (subst (λ starts. IsStampUpto starts c.args.code.now.value c.args.code.now.end n) (sym c.as_slice-starts.ensures.value) (of_late c.args.tables.now.codes.now c.requires.tables.sound.fit c.args.tables.now.hits c.requires.tables.hits c.args.code.now c.requires.fit n is))
