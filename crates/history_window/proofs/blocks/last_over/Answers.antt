use Rattle.std.proofs.Common.{ℕ, ◌≤◌, subst}
use Rattle.history_window.specs.Peaks.{IsHeightBefore}
use Rattle.history_window.proofs.BlockLemmas.{none_over, other_over, some_over}
use Rattle.history_window.proofs.blocks.last_over.Goals as goal

pub top_before-requires : goal.top_before-requires
top_before-requires c = c.requires.tables.hits.overs.raised

pub returns-in_default : goal.returns-in_default
returns-in_default c =
    none_over c.args.tables.now.codes.now c.requires.tables.sound.fit c.args.tables.now.hits c.requires.tables.hits c.args.code.now c.requires.fit (subst (λ r. (n : ℕ) → ¬ IsHeightBefore c.args.tables.now.hits.overs.items.items r n) c.rank-limit.ensures c.in_default.ensures)

pub returns-in-None : goal.returns-in-None
returns-in-None c =
    other_over c.args.tables.now.codes.now c.requires.tables.sound.fit c.args.tables.now.hits c.requires.tables.hits c.args.code.now c.requires.fit c.in-Some.top
    (subst (λ r. IsHeightBefore c.args.tables.now.hits.overs.items.items r c.in-Some.top) c.rank-limit.ensures c.in-Some.ensures.0)
    (subst (λ r. (n : ℕ) → IsHeightBefore c.args.tables.now.hits.overs.items.items r n → n ≤ c.in-Some.top) c.rank-limit.ensures c.in-Some.ensures.1)
    c.in-None.ensures

pub returns-in-Some-stamp_of : goal.returns-in-Some-stamp_of
returns-in-Some-stamp_of c =
    some_over c.args.tables.now.codes.now c.requires.tables.sound.fit c.args.tables.now.hits c.requires.tables.hits c.args.code.now c.requires.fit c.in-Some.top
    (subst (λ r. IsHeightBefore c.args.tables.now.hits.overs.items.items r c.in-Some.top) c.rank-limit.ensures c.in-Some.ensures.0)
    (subst (λ r. (n : ℕ) → IsHeightBefore c.args.tables.now.hits.overs.items.items r n → n ≤ c.in-Some.top) c.rank-limit.ensures c.in-Some.ensures.1)
    c.in-Some-stamp_of.stamp c.in-Some-stamp_of.ensures.0 c.in-Some-stamp_of.ensures.1
