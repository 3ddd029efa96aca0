use Rattle.std.proofs.Common.{sym, subst}
use Rattle.std.specs.List.Sorted.{IsNonDecreasingBy}
use Rattle.certificate_finder.specs.Leaves.{itself}
use Rattle.history_window.specs.Ranks.{IsStampFrom}
use Rattle.history_window.proofs.BlockLemmas.{early_of, of_early}
use Rattle.history_window.proofs.blocks.first_end.Goals as goal

pub first_from-requires : goal.first_from-requires
first_from-requires c = subst (λ ends. IsNonDecreasingBy itself ends) (sym c.as_slice-ends.ensures.value) c.requires.tables.hits.ends.rise

pub returns-in-Some : goal.returns-in-Some
returns-in-Some c = (
  early_of c.args.tables.now.codes.now c.requires.tables.sound.fit c.args.tables.now.hits c.requires.tables.hits c.args.code.now c.requires.fit c.last_over-over.result c.last_over-over.ensures c.in-Some.end (subst (λ ends. IsStampFrom ends c.args.code.now.value c.last_over-over.result c.in-Some.end) c.as_slice-ends.ensures.value c.in-Some.ensures.0),
  λ n is. c.in-Some.ensures.1 n (subst (λ ends. IsStampFrom ends c.args.code.now.value c.last_over-over.result n) (sym c.as_slice-ends.ensures.value) (of_early c.args.tables.now.codes.now c.requires.tables.sound.fit c.args.tables.now.hits c.requires.tables.hits c.args.code.now c.requires.fit c.last_over-over.result c.last_over-over.ensures n is)),
)

pub returns-in-None : goal.returns-in-None
returns-in-None c = λ n is. c.in-None.ensures n (subst (λ ends. IsStampFrom ends c.args.code.now.value c.last_over-over.result n) (sym c.as_slice-ends.ensures.value) (of_early c.args.tables.now.codes.now c.requires.tables.sound.fit c.args.tables.now.hits c.requires.tables.hits c.args.code.now c.requires.fit c.last_over-over.result c.last_over-over.ensures n is))
