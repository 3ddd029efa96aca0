use Rattle.std.proofs.Common.{ℕ, ◌≤◌, sym, subst}
use Rattle.std.specs.List.Sorted.{IsNonDecreasingBy}
use Rattle.certificate_finder.specs.Leaves.{itself}
use Rattle.history_window.specs.Ranks.{IsUpto}
use Rattle.history_window.proofs.CutLemmas.{last_is, no_cut, other_key, place_within}
use Rattle.history_window.proofs.cuts.last_cut.Goals as goal

pub greatest_upto-requires : goal.greatest_upto-requires
greatest_upto-requires c = subst (λ turns. IsNonDecreasingBy itself turns) (sym c.as_slice-turns.ensures.value) c.requires.cuts.rise

pub returns-in_default : goal.returns-in_default
returns-in_default c = no_cut c.args.tables.now.codes.now c.requires.tables.sound c.args.cuts.now c.requires.cuts c.args.key (subst (λ m. (n : ℕ) → ¬ IsUpto c.args.cuts.now.turns.items m n) c.turn-limit.ensures (subst (λ turns. (n : ℕ) → ¬ IsUpto turns c.turn-limit.result n) c.as_slice-turns.ensures.value c.in_default.ensures))

pub code_at-cut-requires : goal.code_at-cut-requires
code_at-cut-requires c =
    let found = subst (λ m. IsUpto c.args.cuts.now.turns.items m c.in-Some.found) c.turn-limit.ensures (subst (λ turns. IsUpto turns c.turn-limit.result c.in-Some.found) c.as_slice-turns.ensures.value c.in-Some.ensures.0) in
    let greatest = subst (λ m. (n : ℕ) → IsUpto c.args.cuts.now.turns.items m n → n ≤ c.in-Some.found) c.turn-limit.ensures (subst (λ turns. (n : ℕ) → IsUpto turns c.turn-limit.result n → n ≤ c.in-Some.found) c.as_slice-turns.ensures.value c.in-Some.ensures.1) in
    place_within c.args.tables.now.codes.now c.requires.tables.sound c.args.cuts.now c.requires.cuts c.args.key c.in-Some.found found greatest

pub returns-then-cut-key : goal.returns-then-cut-key
returns-then-cut-key c =
    let found = subst (λ m. IsUpto c.args.cuts.now.turns.items m c.in-Some.found) c.turn-limit.ensures (subst (λ turns. IsUpto turns c.turn-limit.result c.in-Some.found) c.as_slice-turns.ensures.value c.in-Some.ensures.0) in
    let greatest = subst (λ m. (n : ℕ) → IsUpto c.args.cuts.now.turns.items m n → n ≤ c.in-Some.found) c.turn-limit.ensures (subst (λ turns. (n : ℕ) → IsUpto turns c.turn-limit.result n → n ≤ c.in-Some.found) c.as_slice-turns.ensures.value c.in-Some.ensures.1) in
    other_key c.args.tables.now.codes.now c.requires.tables.sound c.args.cuts.now c.requires.cuts c.args.key c.in-Some.found found greatest c.code_at-cut.result c.code_at-cut.ensures c.if-cut-key.true

pub returns : goal.returns
returns c =
    let found = subst (λ m. IsUpto c.args.cuts.now.turns.items m c.in-Some.found) c.turn-limit.ensures (subst (λ turns. IsUpto turns c.turn-limit.result c.in-Some.found) c.as_slice-turns.ensures.value c.in-Some.ensures.0) in
    let greatest = subst (λ m. (n : ℕ) → IsUpto c.args.cuts.now.turns.items m n → n ≤ c.in-Some.found) c.turn-limit.ensures (subst (λ turns. (n : ℕ) → IsUpto turns c.turn-limit.result n → n ≤ c.in-Some.found) c.as_slice-turns.ensures.value c.in-Some.ensures.1) in
    last_is c.args.tables.now.codes.now c.requires.tables.sound c.args.cuts.now c.requires.cuts c.args.key c.in-Some.found found greatest c.code_at-cut.result c.code_at-cut.ensures c.if-cut-key.false
