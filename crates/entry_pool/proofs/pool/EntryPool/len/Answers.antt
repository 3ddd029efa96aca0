use Rattle.std.proofs.Common.{◌≡◌, ◌≤◌, List, ℕ, length, sym, ap, subst, ◌∙◌, arith}
use Rattle.entry_pool.specs.Chains.{IsDistinct}
use Rattle.entry_pool.specs.Linked.{chains_of}
use Rattle.entry_pool.specs.Rows.{Rows, numbers}
use Rattle.entry_pool.specs.Pool.{rows_in, ages_of}
use Rattle.entry_pool.proofs.Sound.{numbers-rows, length-rows, count-ages, apart-ages}
use Rattle.entry_pool.proofs.pool.EntryPool.len.Goals as goal

counted : (c : goal.After-self) → length (rows_in c.self.inside.links).rows ≡ c.self.inside.links.count
unfolding rows_in
counted c =
    let l = c.self.inside.links in
    length-rows (chains_of l).item (ages_of l) ∙ count-ages l c.self.invariant

pub returns-clause-len : goal.returns-clause-len
returns-clause-len c = sym (counted c) ∙ ap (λ (p : Rows). length p.rows) c.self.view_is

pub returns-clause-within : goal.returns-clause-within
unfolding rows_in
returns-clause-within c =
    let l = c.self.inside.links in
    let le = c.self.invariant.count in
    subst (λ (p : Rows). length p.rows ≤ p.limit) c.self.view_is (omega (arith, counted c, le))

pub returns-clause-apart : goal.returns-clause-apart
unfolding rows_in
returns-clause-apart c =
    let l = c.self.inside.links in
    subst (λ (p : Rows). IsDistinct (numbers p.rows)) c.self.view_is (subst (λ (zs : List ℕ). IsDistinct zs) (sym (numbers-rows (chains_of l).item (ages_of l))) (apart-ages l c.self.invariant).1)
