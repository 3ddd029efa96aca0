-- The head's link towards newer nodes leads to the last of them.
use Rattle.std.proofs.Common.{◌≡◌, List, None, sym, ap, ◌∙◌, arith}
use Rattle.std.specs.List.{last_or}
use Rattle.entry_pool.specs.declared.row.Row.{Row}
use Rattle.entry_pool.specs.Chains.{none, end_of}
use Rattle.entry_pool.specs.Linked.{chains_of}
use Rattle.entry_pool.specs.Pool.{ages_of}
use Rattle.entry_pool.proofs.ChainLaws.{in-same}
use Rattle.entry_pool.proofs.Sound.{below-ages, named}
use Rattle.entry_pool.proofs.Marks.{rows-are, back-end, last-none, last-in, last-some}
use Rattle.entry_pool.proofs.pool.EntryPool.oldest.Goals as goal

pub returns-then-at-eq-NONE : goal.returns-then-at-eq-NONE
returns-then-at-eq-NONE c =
    let l = c.self.inside.links in
    let end : c.newer-at.result ≡ end_of none (ages_of l) = c.newer-at.ensures ∙ back-end (chains_of l).newer none (ages_of l) c.self.invariant.pool.newer in
    let is_none : c.newer-at.result ≡ none = omega arith in
    last-none (chains_of l).item (ages_of l) (named l c.self.invariant) (sym end ∙ is_none) ∙ ap (λ (rs : List Row). last_or None rs) (rows-are l c.args.self.now c.self.view_is)

pub item-requires : goal.item-requires
item-requires c =
    let l = c.self.inside.links in
    let end : c.newer-at.result ≡ end_of none (ages_of l) = c.newer-at.ensures ∙ back-end (chains_of l).newer none (ages_of l) c.self.invariant.pool.newer in
    let some : c.newer-at.result ≡ none → ⊥ = λ e. omega (arith, e) in
    below-ages l c.self.invariant c.newer-at.result (in-same (end_of none (ages_of l)) c.newer-at.result (ages_of l) (sym end) (last-in (ages_of l) (λ e. some (end ∙ e))))

pub returns : goal.returns
returns c =
    let l = c.self.inside.links in
    let end : c.newer-at.result ≡ end_of none (ages_of l) = c.newer-at.ensures ∙ back-end (chains_of l).newer none (ages_of l) c.self.invariant.pool.newer in
    let some : c.newer-at.result ≡ none → ⊥ = λ e. omega (arith, e) in
    last-some (chains_of l).item (ages_of l) c.newer-at.result c.item.result end some c.item.ensures ∙ ap (λ (rs : List Row). last_or None rs) (rows-are l c.args.self.now c.self.view_is)
