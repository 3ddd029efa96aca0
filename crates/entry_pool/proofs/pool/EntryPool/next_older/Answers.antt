-- What the mark leads to is what comes after it.
use Rattle.std.proofs.Common.{◌≡◌, inl, inr, arith}
use Rattle.entry_pool.specs.Chains.{none, IsIn}
use Rattle.entry_pool.specs.Linked.{chains_of}
use Rattle.entry_pool.specs.Pool.{ages_of}
use Rattle.entry_pool.proofs.Sound.{below-ages, apart-ages}
use Rattle.entry_pool.proofs.Marks.{rows-are, mark-in, next-none, next-some, next-in}
use Rattle.entry_pool.proofs.pool.EntryPool.next_older.Goals as goal

pub older-at-requires : goal.older-at-requires
older-at-requires c =
    let l = c.self.inside.links in
    elim (mark-in (chains_of l).item (ages_of l) c.args.self.now.rows c.args.mark (rows-are l c.args.self.now c.self.view_is) c.requires) [
      | inl e ↦ inl e
      | inr i ↦ inr (below-ages l c.self.invariant c.args.mark i)
    ]

pub returns-then-at-eq-NONE : goal.returns-then-at-eq-NONE
returns-then-at-eq-NONE c =
    let l = c.self.inside.links in
    next-none ((chains_of l).older) (chains_of l).item (ages_of l) (c.args.self.now.rows) c.args.mark c.older-at.result (c.self.invariant.pool.older) (apart-ages l c.self.invariant) (rows-are l c.args.self.now c.self.view_is) c.requires c.older-at.ensures (omega arith)

pub item-requires : goal.item-requires
item-requires c =
    let l = c.self.inside.links in
    let named : c.older-at.result ≡ none → ⊥ = λ e. omega (arith, e) in
    let mark = mark-in (chains_of l).item (ages_of l) (c.args.self.now.rows) c.args.mark (rows-are l c.args.self.now c.self.view_is) c.requires in
    let inside : IsIn c.older-at.result (ages_of l) = next-in ((chains_of l).older) (ages_of l) c.args.mark c.older-at.result (c.self.invariant.pool.older) (apart-ages l c.self.invariant) mark c.older-at.ensures named in
    below-ages l c.self.invariant c.older-at.result inside

pub returns : goal.returns
returns c =
    let l = c.self.inside.links in
    let named : c.older-at.result ≡ none → ⊥ = λ e. omega (arith, e) in
    next-some ((chains_of l).older) (chains_of l).item (ages_of l) (c.args.self.now.rows) c.args.mark c.older-at.result c.item.result (c.self.invariant.pool.older) (apart-ages l c.self.invariant) (rows-are l c.args.self.now c.self.view_is) c.requires c.older-at.ensures named c.item.ensures
