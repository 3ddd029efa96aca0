-- Each step leads to the next node of the bucket, and the one that is looked for is still ahead.
use Rattle.std.proofs.Common.{◌≡◌, ◌<◌, ◌∷◌, ℕ, List, length, inl, refl, sym, subst, ◌∙◌, arith}
use Rattle.entry_pool.specs.Chains.{none, IsIn, after_of}
use Rattle.entry_pool.specs.Linked.{chains_of, IsLink}
use Rattle.entry_pool.specs.Pool.{bucket_of}
use Rattle.entry_pool.proofs.PoolLaws.{after-here}
use Rattle.entry_pool.proofs.Sound.{step-in, step-out, bucket-path, bucket-apart, mark-link}
use Rattle.entry_pool.proofs.links.Links.before.Goals as goal

pub loop-next-init : goal.loop-next-init
loop-next-init c =
    let xs = bucket_of c.args.self.now c.args.set in
    (inl refl, subst (λ (zs : List ℕ). IsIn c.args.at zs) (sym (after-here none xs)) c.requires.listed, c.next-next.ensures)

pub next-next-requires-in-loop-next : goal.next-next-requires-in-loop-next
next-next-requires-in-loop-next c =
    let l = c.args.self.now in
    let xs = bucket_of l c.args.set in
    let f = (chains_of l).next c.args.set in
    let q = c.loop-next.before in
    let is : c.loop-next.next ≡ f q = c.loop-next.invariant.2 in
    let step = step-in f q c.args.at xs (after_of q none xs) (bucket-path l c.requires.sound c.args.set) (bucket-apart l c.requires.sound c.args.set) c.loop-next.invariant.0 refl c.loop-next.invariant.1 (λ e. c.loop-next-test.true (is ∙ e)) in
    subst (λ (k : ℕ). IsLink k (length l.nodes.items)) (sym is) (mark-link l c.requires.sound c.args.set (f q) step.0)

pub loop-next-smaller : goal.loop-next-smaller
loop-next-smaller c =
    let l = c.args.self.now in
    let xs = bucket_of l c.args.set in
    let f = (chains_of l).next c.args.set in
    let q = c.loop-next.before in
    let is : c.loop-next.next ≡ f q = c.loop-next.invariant.2 in
    let step = step-in f q c.args.at xs (after_of q none xs) (bucket-path l c.requires.sound c.args.set) (bucket-apart l c.requires.sound c.args.set) c.loop-next.invariant.0 refl c.loop-next.invariant.1 (λ e. c.loop-next-test.true (is ∙ e)) in
    subst (λ (k : ℕ). length (after_of k none xs) < length (after_of q none xs)) (sym is) step.2

pub loop-next-preserved : goal.loop-next-preserved
loop-next-preserved c =
    let l = c.args.self.now in
    let xs = bucket_of l c.args.set in
    let f = (chains_of l).next c.args.set in
    let q = c.loop-next.before in
    let is : c.loop-next.next ≡ f q = c.loop-next.invariant.2 in
    let step = step-in f q c.args.at xs (after_of q none xs) (bucket-path l c.requires.sound c.args.set) (bucket-apart l c.requires.sound c.args.set) c.loop-next.invariant.0 refl c.loop-next.invariant.1 (λ e. c.loop-next-test.true (is ∙ e)) in (
      subst (λ (k : ℕ). IsIn k (none ∷ xs)) (sym is) step.0,
      subst (λ (k : ℕ). IsIn c.args.at (after_of k none xs)) (sym is) step.1,
      c.next-next-in-loop-next.ensures,
    )

pub returns-clause-next : goal.returns-clause-next
returns-clause-next c =
    let l = c.args.self.now in
    let xs = bucket_of l c.args.set in
    let f = (chains_of l).next c.args.set in
    let q = c.loop-next.before in
    let is : f q ≡ c.args.at = sym c.loop-next.invariant.2 ∙ omega arith in
    step-out f q c.args.at xs (after_of q none xs) (bucket-path l c.requires.sound c.args.set) c.loop-next.invariant.0 refl c.loop-next.invariant.1 is
