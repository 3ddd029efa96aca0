-- The links that were written, one after another.
use Rattle.std.proofs.Common.{◌≡◌, sym, ap, subst, ◌∙◌, arith}
use Rattle.entry_pool.specs.declared.pool_item.PoolItem.{PoolItem}
use Rattle.entry_pool.specs.Chains.{none, Chains, IsTaken}
use Rattle.entry_pool.specs.Linked.{chains_of}
use Rattle.entry_pool.proofs.Written.{with_older, with_newer, with_next, with_free, written-taken}
use Rattle.entry_pool.proofs.links.Links.take.Goals as goal

pub returns-clause-taken : goal.returns-clause-taken
unfolding chains_of
returns-clause-taken c =
    let c0 : Chains = chains_of c.args.self.now in
    let x = c.args.at in
    let q = c.args.before in
    let s = c.item-set.result.set in
    let next = c.next-next.result in
    let older = c.older-older.result in
    let newer = c.newer-newer.result in
    let free = c.first_free-free.result in
    let named : x ≡ none → ⊥ = λ e. omega (arith, e) in
    let apart : q ≡ x → ⊥ = c.requires.apart in
    let e : chains_of c.set_free.new.self ≡ with_free x (with_next s x free (with_next s q next (with_newer older newer (with_older newer older c0)))) =
    c.set_free.ensures.chains ∙ ap (with_free x) (c.set_next-2.ensures.chains ∙ ap (with_next s x free) (c.set_next.ensures.chains ∙ ap (with_next s q next) (c.set_newer.ensures.chains ∙ ap (with_newer older newer) c.set_older.ensures.chains))) in
    subst (λ (d : Chains). IsTaken c0 d x q) (sym e)
    (written-taken c0 x q s next older newer free named apart (ap (λ (it : PoolItem). it.set) c.item-set.ensures) c.next-next.ensures c.older-older.ensures c.newer-newer.ensures c.first_free-free.ensures)
