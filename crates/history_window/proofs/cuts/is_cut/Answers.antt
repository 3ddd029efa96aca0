use Rattle.std.proofs.Common.{◌≡◌, true, false, refl, sym, ◌∙◌, subst, arith}
use Rattle.std.proofs.lemmas.Bool.{false_from_ne_true, not-true, not_from_false}
use Rattle.history_window.specs.Codes.{IsFitCode}
use Rattle.history_window.specs.Peaks.{IsCovered}
use Rattle.history_window.proofs.CutLemmas.{clear_from, clear_to}
use Rattle.history_window.proofs.ListLemmas.{all_of}
use Rattle.history_window.proofs.cuts.is_cut.Goals as goal

pub covers-requires : goal.covers-requires
covers-requires c = c.requires.blocks.raised

pub returns-then-not-code : goal.returns-then-not-code
returns-then-not-code c = (
  λ test. (let no' : false ≡ true = test in cc),
  λ cut. (let both : true ≡ false = sym cut.writes ∙ c.if-not-code.true in cc),
)

pub returns-then-code-bound : goal.returns-then-code-bound
returns-then-code-bound c = (
  λ test. (let no' : false ≡ true = test in cc),
  λ cut. absurd (let over = cut.over in omega (arith, over)),
)

pub returns-then-not-is_alone : goal.returns-then-not-is_alone
returns-then-not-is_alone c = (
  λ test. (let no' : false ≡ true = test in cc),
  λ cut. (let no' : false ≡ true = c.if-not-is_alone.ensures.1 cut.alone in cc),
)

pub returns : goal.returns
returns c =
    let fits = all_of IsFitCode c.args.tables.now.codes.now c.args.code.now c.requires.tables.sound.fit c.requires.listed in (
      λ test. record {
        writes = c.if-not-code.false;
        over = omega arith;
        alone = c.if-not-is_alone.ensures.0 refl;
        clear = clear_from c.args.tables.now.codes.now c.requires.tables.sound c.args.blocks.now c.requires.blocks c.args.code.now fits
            (λ covered. let both : true ≡ false = sym (c.covers.ensures.1 (subst (λ n. IsCovered c.args.blocks.now.items.items n) (sym c.rank-at.ensures) covered)) ∙ not-true c.covers.result test in cc);
      },
      λ cut. not_from_false c.covers.result (false_from_ne_true c.covers.result (λ yes'. clear_to c.args.tables.now.codes.now c.requires.tables.sound c.args.blocks.now c.requires.blocks c.args.code.now fits cut.clear (subst (λ n. IsCovered c.args.blocks.now.items.items n) c.rank-at.ensures (c.covers.ensures.0 yes')))),
    )
