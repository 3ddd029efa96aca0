-- What the mark leads to is what comes after it, if the nodes are turned round.
use Rattle.std.proofs.Common.{◌≡◌, List, ◌∷◌, reverse, inl, inr, ap, ◌∙◌, arith}
use Rattle.entry_pool.specs.declared.links.Links.{Links}
use Rattle.entry_pool.specs.declared.row.Row.{Row}
use Rattle.entry_pool.specs.Chains.{none, IsIn, IsDistinct, IsPath}
use Rattle.entry_pool.specs.Linked.{chains_of}
use Rattle.entry_pool.specs.Rows.{Rows, rows_of}
use Rattle.entry_pool.specs.Pool.{IsSound, rows_in, ages_of}
use Rattle.entry_pool.proofs.Sound.{below-ages, apart-ages, named}
use Rattle.entry_pool.proofs.Marks.{rows-are, mark-in, next-none, next-some, next-in}
use Rattle.entry_pool.proofs.public_laws.BackLaws.{map-reverse, path-back, in-back, apart-back}
use Rattle.entry_pool.proofs.pool.EntryPool.next_newer.Goals as goal

rows-back : (l : Links) (p : Rows) → rows_in l ≡ p → rows_of (chains_of l).item (reverse (ages_of l)) ≡ reverse p.rows
rows-back l p is = map-reverse (λ i. record { at = i; item = (chains_of l).item i }) (ages_of l) ∙ ap (λ (rs : List Row). reverse rs) (rows-are l p is)

ages-back : (l : Links) → IsSound l → IsDistinct (none ∷ reverse (ages_of l))
ages-back l sound = ((λ i. named l sound (in-back none (ages_of l) i)), apart-back (ages_of l) (apart-ages l sound).1)

newer-path : (l : Links) → IsSound l → IsPath (chains_of l).newer none (reverse (ages_of l))
newer-path l sound = path-back (chains_of l).newer (ages_of l) sound.pool.newer

pub newer-at-requires : goal.newer-at-requires
newer-at-requires c =
    let l = c.self.inside.links in
    elim (mark-in (chains_of l).item (reverse (ages_of l)) (reverse c.args.self.now.rows) c.args.mark (rows-back l c.args.self.now c.self.view_is) c.requires) [
      | inl e ↦ inl e
      | inr i ↦ inr (below-ages l c.self.invariant c.args.mark (in-back c.args.mark (ages_of l) i))
    ]

pub returns-then-at-eq-NONE : goal.returns-then-at-eq-NONE
returns-then-at-eq-NONE c =
    let l = c.self.inside.links in
    next-none (chains_of l).newer (chains_of l).item (reverse (ages_of l)) (reverse c.args.self.now.rows) c.args.mark c.newer-at.result (newer-path l c.self.invariant) (ages-back l c.self.invariant) (rows-back l c.args.self.now c.self.view_is) c.requires c.newer-at.ensures (omega arith)

pub item-requires : goal.item-requires
item-requires c =
    let l = c.self.inside.links in
    let some : c.newer-at.result ≡ none → ⊥ = λ e. omega (arith, e) in
    let mark = mark-in (chains_of l).item (reverse (ages_of l)) (reverse c.args.self.now.rows) c.args.mark (rows-back l c.args.self.now c.self.view_is) c.requires in
    let inside : IsIn c.newer-at.result (reverse (ages_of l)) = next-in (chains_of l).newer (reverse (ages_of l)) c.args.mark c.newer-at.result (newer-path l c.self.invariant) (ages-back l c.self.invariant) mark c.newer-at.ensures some in
    below-ages l c.self.invariant c.newer-at.result (in-back c.newer-at.result (ages_of l) inside)

pub returns : goal.returns
returns c =
    let l = c.self.inside.links in
    let some : c.newer-at.result ≡ none → ⊥ = λ e. omega (arith, e) in
    next-some (chains_of l).newer (chains_of l).item (reverse (ages_of l)) (reverse c.args.self.now.rows) c.args.mark c.newer-at.result c.item.result (newer-path l c.self.invariant) (ages-back l c.self.invariant) (rows-back l c.args.self.now c.self.view_is) c.requires c.newer-at.ensures some c.item.ensures
