use Rattle.std.proofs.Common.{◌≡◌, ℕ, ◌≤◌, true, false, refl, sym, ◌∙◌, subst}
use Rattle.std.specs.List.Sorted.{IsNonDecreasingBy}
use Rattle.std.proofs.lemmas.Bool.{eq-eqb, eqb-true}
use Rattle.certificate_finder.specs.Leaves.{itself}
use Rattle.history_window.specs.Peaks.{IsCovered}
use Rattle.history_window.specs.Ranks.{IsUpto}
use Rattle.history_window.specs.Tables.{first_turn}
use Rattle.history_window.proofs.AloneLemmas.{alone_top, covered_not_alone, own_upto, top_alone}
use Rattle.history_window.proofs.cuts.is_alone.Goals as goal

pub covers-requires : goal.covers-requires
covers-requires c = c.requires.tables.writes.spans.raised

pub greatest_upto-requires : goal.greatest_upto-requires
greatest_upto-requires c = subst (λ turns. IsNonDecreasingBy itself turns) (sym c.as_slice-turns.ensures.value) c.requires.tables.writes.turns.rise

pub returns-then-covers : goal.returns-then-covers
returns-then-covers c = (
  λ test. (let no' : false ≡ true = test in cc),
  λ alone. absurd (covered_not_alone c.args.tables.now.codes.now c.requires.tables.sound c.args.tables.now.writes c.requires.tables.writes c.args.code.now c.requires.listed c.requires.writes (subst (λ n. IsCovered c.args.tables.now.writes.spans.items.items n) c.first_turn-own.ensures (c.if-covers.ensures.0 refl)) alone),
)

pub returns-in_default : goal.returns-in_default
returns-in_default c = (
  λ test. (let no' : false ≡ true = test in cc),
  λ alone. absurd (c.in_default.ensures (first_turn c.args.code.now) (subst (λ turns. IsUpto turns c.last_turn-limit.result (first_turn c.args.code.now)) (sym c.as_slice-turns.ensures.value) (subst (λ n. IsUpto c.args.tables.now.writes.turns.items n (first_turn c.args.code.now)) (sym c.last_turn-limit.ensures) (own_upto c.args.tables.now.codes.now c.requires.tables.sound c.args.tables.now.writes c.requires.tables.writes c.args.code.now c.requires.listed c.requires.writes)))),
)

pub returns : goal.returns
returns c =
    let found = subst (λ n. IsUpto c.args.tables.now.writes.turns.items n c.in-Some.last) c.last_turn-limit.ensures (subst (λ turns. IsUpto turns c.last_turn-limit.result c.in-Some.last) c.as_slice-turns.ensures.value c.in-Some.ensures.0) in
    let greatest = subst (λ m. (n : ℕ) → IsUpto c.args.tables.now.writes.turns.items m n → n ≤ c.in-Some.last) c.last_turn-limit.ensures (subst (λ turns. (n : ℕ) → IsUpto turns c.last_turn-limit.result n → n ≤ c.in-Some.last) c.as_slice-turns.ensures.value c.in-Some.ensures.1) in (
      λ test. top_alone c.args.tables.now.codes.now c.requires.tables.sound c.args.tables.now.writes c.requires.tables.writes c.args.code.now c.requires.listed c.requires.writes c.in-Some.last found greatest
          (λ covered. let both : false ≡ true = c.if-covers.ensures.1 (subst (λ n. IsCovered c.args.tables.now.writes.spans.items.items n) (sym c.first_turn-own.ensures) covered) in cc)
          (eqb-true c.in-Some.last c.first_turn-own.result test ∙ c.first_turn-own.ensures),
      λ alone. eq-eqb c.in-Some.last c.first_turn-own.result (alone_top c.args.tables.now.codes.now c.requires.tables.sound c.args.tables.now.writes c.requires.tables.writes c.args.code.now c.requires.listed c.requires.writes c.in-Some.last found greatest alone ∙ sym c.first_turn-own.ensures),
    )
