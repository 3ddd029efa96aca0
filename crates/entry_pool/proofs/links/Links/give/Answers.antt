-- The links that were written, one after another.
use Rattle.std.proofs.Common.{◌≡◌, get_or, sym, ap, subst, ◌∙◌, arith}
use Rattle.entry_pool.specs.Chains.{none, Chains, IsGiven}
use Rattle.entry_pool.specs.Linked.{chains_of, node_at, with_node}
use Rattle.entry_pool.proofs.LinkLaws.{from-node}
use Rattle.entry_pool.proofs.Written.{with_older, with_newer, with_next, with_free, written-given}
use Rattle.entry_pool.proofs.links.Links.give.Goals as goal

pub returns-clause-given : goal.returns-clause-given
unfolding chains_of
returns-clause-given c =
    let l = c.args.self.now in
    let c0 : Chains = chains_of l in
    let x = c.first_free-at.result in
    let item = c.args.item in
    let free = c.next-free.result in
    let next = c.next-next.result in
    let older = c.older-older.result in
    let named : x ≡ none → ⊥ = λ e. omega (arith, e) in
    let apart : c0.older none ≡ x → ⊥ = λ e. c.requires.apart (e ∙ c.first_free-at.ensures) in
    let behind : free ≡ c0.free x =
    c.next-free.ensures ∙ sym (from-node (get_or l.heads.items item.set none) (λ j. (node_at l.nodes.items j).next) x named) ∙ from-node l.free (λ j. (node_at l.nodes.items j).next) x named in
    let e : chains_of c.set_next.new.self ≡ with_next item.set none x (with_older none x (with_newer older x (with_node x (record { item = item; next = next; older = older; newer = none }) (with_free free c0)))) =
    c.set_next.ensures.chains ∙ ap (with_next item.set none x) (c.set_older.ensures.chains ∙ ap (with_older none x) (c.set_newer.ensures.chains ∙ ap (with_newer older x) (c.set_node.ensures.chains ∙ ap (with_node x (record { item = item; next = next; older = older; newer = none })) c.set_free.ensures.chains))) in
    subst (λ (d : Chains). IsGiven c0 d x item) (sym e) (written-given c0 x item free next older named apart behind c.next-next.ensures c.older-older.ensures)
