use Rattle.std.proofs.Common.{◌≡◌, ◌||◌, true, false, refl, sym, ◌∙◌, arith, inl, inr}
use Rattle.std.proofs.lemmas.Bool.{not-false, not-true}
use Rattle.history_window.specs.Codes.{IsFitCode}
use Rattle.history_window.proofs.CutLemmas.{stays_left, stays_uncut}
use Rattle.history_window.proofs.ListLemmas.{all_of}
use Rattle.history_window.proofs.windowing.stays.Goals as goal

pub returns-then-is_miss : goal.returns-then-is_miss
returns-then-is_miss c = (
  λ test. (let no' : false ≡ true = test in cc),
  λ stays.
      let none : (c.args.code.now.writes || c.args.code.now.reads) ≡ false = not-true (c.args.code.now.writes || c.args.code.now.reads) (sym c.if-is_miss.ensures) in
      let both : true ≡ false = sym stays.no_miss ∙ none in
      cc,
)

pub returns-in_default : goal.returns-in_default
returns-in_default c = (
  λ test. stays_uncut c.args.tables.now.codes.now c.requires.tables.sound c.args.cuts.now.bound c.args.code.now (not-false (c.args.code.now.writes || c.args.code.now.reads) (sym c.if-is_miss.ensures)) c.in_default.ensures,
  λ stays. refl,
)

pub returns-then-code-cut : goal.returns-then-code-cut
returns-then-code-cut c = (
  λ test. stays_left c.args.tables.now.codes.now c.requires.tables.sound c.args.cuts.now.bound c.args.code.now c.in-Some.cut (not-false (c.args.code.now.writes || c.args.code.now.reads) (sym c.if-is_miss.ensures)) c.in-Some.ensures (inl c.if-code-cut.true),
  λ stays. refl,
)

pub returns-then-cut-code : goal.returns-then-cut-code
returns-then-cut-code c = (
  λ test. stays_left c.args.tables.now.codes.now c.requires.tables.sound c.args.cuts.now.bound c.args.code.now c.in-Some.cut (not-false (c.args.code.now.writes || c.args.code.now.reads) (sym c.if-is_miss.ensures)) c.in-Some.ensures (inr (inl c.if-cut-code.true)),
  λ stays. refl,
)

pub returns-then-not-code : goal.returns-then-not-code
returns-then-not-code c = (
  λ test. (let no' : false ≡ true = test in cc),
  λ stays. absurd (elim (stays.uncut c.in-Some.cut c.in-Some.ensures) [
    | inl same ↦ omega (arith, same)
    | inr rest ↦ elim rest [
      | inl before ↦ omega (arith, before)
      | inr reads ↦ let both : true ≡ false = sym reads.0 ∙ c.if-not-code.true in cc
    ]
  ]),
)

pub starts_late-requires-clause-fit : goal.starts_late-requires-clause-fit
starts_late-requires-clause-fit c = all_of IsFitCode c.args.tables.now.codes.now c.args.code.now c.requires.tables.sound.fit c.requires.listed

pub returns : goal.returns
returns c = (
  λ test. stays_left c.args.tables.now.codes.now c.requires.tables.sound c.args.cuts.now.bound c.args.code.now c.in-Some.cut (not-false (c.args.code.now.writes || c.args.code.now.reads) (sym c.if-is_miss.ensures)) c.in-Some.ensures (inr (inr (c.if-not-code.false, c.starts_late.ensures.0 test))),
  λ stays. elim (stays.uncut c.in-Some.cut c.in-Some.ensures) [
    | inl same ↦ absurd (omega (arith, same))
    | inr rest ↦ elim rest [
      | inl before ↦ absurd (omega (arith, before))
      | inr reads ↦ c.starts_late.ensures.1 reads.1
    ]
  ],
)
