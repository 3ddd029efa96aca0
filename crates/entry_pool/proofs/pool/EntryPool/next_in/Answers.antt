-- What the mark leads to is what comes after it.
use Rattle.std.proofs.Common.{◌≡◌, arith}
use Rattle.entry_pool.specs.Chains.{none, IsIn}
use Rattle.entry_pool.specs.Linked.{chains_of}
use Rattle.entry_pool.specs.Rows.{in_set}
use Rattle.entry_pool.specs.Pool.{bucket_of}
use Rattle.entry_pool.proofs.Sound.{below-ages, bucket-ages, bucket-path, bucket-apart, mark-link}
use Rattle.entry_pool.proofs.Marks.{bucket-rows, mark-in, next-none, next-some, next-in}
use Rattle.entry_pool.proofs.pool.EntryPool.next_in.Goals as goal

pub next-at-requires : goal.next-at-requires
next-at-requires c =
    let l = c.self.inside.links in
    mark-link l c.self.invariant c.args.set c.args.mark (mark-in (chains_of l).item (bucket_of l c.args.set) (in_set c.args.set c.args.self.now.rows) c.args.mark (bucket-rows l c.args.self.now c.args.set c.self.view_is) c.requires)

pub returns-then-at-eq-NONE : goal.returns-then-at-eq-NONE
returns-then-at-eq-NONE c =
    let l = c.self.inside.links in
    next-none ((chains_of l).next c.args.set) (chains_of l).item (bucket_of l c.args.set) (in_set c.args.set c.args.self.now.rows) c.args.mark c.next-at.result (bucket-path l c.self.invariant c.args.set) (bucket-apart l c.self.invariant c.args.set) (bucket-rows l c.args.self.now c.args.set c.self.view_is) c.requires c.next-at.ensures (omega arith)

pub item-requires : goal.item-requires
item-requires c =
    let l = c.self.inside.links in
    let named : c.next-at.result ≡ none → ⊥ = λ e. omega (arith, e) in
    let mark = mark-in (chains_of l).item (bucket_of l c.args.set) (in_set c.args.set c.args.self.now.rows) c.args.mark (bucket-rows l c.args.self.now c.args.set c.self.view_is) c.requires in
    let inside : IsIn c.next-at.result (bucket_of l c.args.set) = next-in ((chains_of l).next c.args.set) (bucket_of l c.args.set) c.args.mark c.next-at.result (bucket-path l c.self.invariant c.args.set) (bucket-apart l c.self.invariant c.args.set) mark c.next-at.ensures named in
    below-ages l c.self.invariant c.next-at.result (bucket-ages l c.self.invariant c.args.set c.next-at.result inside)

pub returns : goal.returns
returns c =
    let l = c.self.inside.links in
    let named : c.next-at.result ≡ none → ⊥ = λ e. omega (arith, e) in
    next-some ((chains_of l).next c.args.set) (chains_of l).item (bucket_of l c.args.set) (in_set c.args.set c.args.self.now.rows) c.args.mark c.next-at.result c.item.result (bucket-path l c.self.invariant c.args.set) (bucket-apart l c.self.invariant c.args.set) (bucket-rows l c.args.self.now c.args.set c.self.view_is) c.requires c.next-at.ensures named c.item.ensures
