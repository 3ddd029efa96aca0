-- The node goes out of its chains.
use Rattle.std.proofs.Common.{◌≡◌, ◌∷◌, ℕ, sym, ap, subst, ◌∙◌}
use Rattle.entry_pool.specs.declared.pool_item.PoolItem.{PoolItem}
use Rattle.entry_pool.specs.Chains.{none, IsIn, after_of}
use Rattle.entry_pool.specs.declared.links.Links.{Links}
use Rattle.entry_pool.specs.Rows.{Rows, with_rows, without_at, IsHeld}
use Rattle.entry_pool.specs.Pool.{rows_in, ages_of, bucket_of, IsBehind}
use Rattle.entry_pool.proofs.Sound.{below-ages, in-own, can-take}
use Rattle.entry_pool.proofs.Settled.{held-ages, taken-sound, taken-rows}
use Rattle.entry_pool.proofs.pool.EntryPool.remove.Goals as goal

there : (l : Links) (p : Rows) (x : ℕ) → rows_in l ≡ p → IsHeld x p.rows → IsIn x (ages_of l)
there l p x is held = held-ages l x (subst (λ (r : Rows). IsHeld x r.rows) (sym is) held)

pub item-set-requires : goal.item-set-requires
item-set-requires c =
    let l = c.self.inside.links in
    below-ages l c.self.invariant c.args.at (there l c.args.self.now c.args.at c.self.view_is c.requires)

pub before-before-requires-clause-listed : goal.before-before-requires-clause-listed
before-before-requires-clause-listed c =
    let l = c.self.inside.links in
    let own = ap (λ (it : PoolItem). it.set) c.item-set.ensures in
    subst (λ (s : ℕ). IsIn c.args.at (bucket_of l s)) (sym own) (in-own l c.self.invariant c.args.at (there l c.args.self.now c.args.at c.self.view_is c.requires))

pub take-requires : goal.take-requires
take-requires c =
    let l = c.self.inside.links in
    let q = c.before-before.result in
    let own = ap (λ (it : PoolItem). it.set) c.item-set.ensures in
    let mark = subst (λ (s : ℕ). IsIn q (none ∷ bucket_of l s)) own c.before-before.ensures.mark in
    let behind = subst (λ (s : ℕ). IsBehind c.args.at (after_of q none (bucket_of l s))) own c.before-before.ensures.next in
    can-take l c.self.invariant c.args.at q (there l c.args.self.now c.args.at c.self.view_is c.requires) mark behind

pub invariant_of-self : goal.invariant_of-self
invariant_of-self c =
    let l = c.self.inside.links in
    let q = c.before-before.result in
    let own = ap (λ (it : PoolItem). it.set) c.item-set.ensures in
    let behind = subst (λ (s : ℕ). IsBehind c.args.at (after_of q none (bucket_of l s))) own c.before-before.ensures.next in
    taken-sound l c.take.new.self c.args.at q c.self.invariant behind c.take.ensures.taken c.take.ensures.nodes c.take.ensures.heads c.take.ensures.count (there l c.args.self.now c.args.at c.self.view_is c.requires)

pub returns : goal.returns
returns c =
    let l = c.self.inside.links in
    let q = c.before-before.result in
    let own = ap (λ (it : PoolItem). it.set) c.item-set.ensures in
    let behind = subst (λ (s : ℕ). IsBehind c.args.at (after_of q none (bucket_of l s))) own c.before-before.ensures.next in
    taken-rows l c.take.new.self c.args.at q c.self.invariant behind c.take.ensures.taken c.take.ensures.nodes c.take.ensures.heads c.take.ensures.count (there l c.args.self.now c.args.at c.self.view_is c.requires)
    ∙ ap (λ (p : Rows). with_rows p (without_at c.args.at p.rows)) c.self.view_is
