-- The first free node goes to the front of the chains.
use Rattle.std.proofs.Common.{◌≡◌, ◌<◌, ◌∷◌, ℕ, length, sym, ap, subst, ◌∙◌, arith}
use Rattle.entry_pool.specs.declared.links.Links.{Links}
use Rattle.entry_pool.specs.Linked.{chains_of}
use Rattle.entry_pool.specs.Words.{Fits}
use Rattle.entry_pool.specs.Rows.{Rows, with_rows}
use Rattle.entry_pool.specs.Pool.{rows_in, ages_of, IsSound}
use Rattle.entry_pool.proofs.Sound.{length-rows, count-ages}
use Rattle.entry_pool.proofs.Settled.{can-give, given-sound, given-rows}
use Rattle.entry_pool.proofs.pool.EntryPool.push.Goals as goal

room : (l : Links) (p : Rows) → IsSound l → rows_in l ≡ p → length p.rows < p.limit → l.count < length l.nodes.items
unfolding rows_in
room l p sound is lt =
    let free : length (rows_in l).rows < (rows_in l).limit = subst (λ (r : Rows). length r.rows < r.limit) (sym is) lt in
    omega (arith, free, length-rows (chains_of l).item (ages_of l), count-ages l sound)

set : (l : Links) (p : Rows) (s : ℕ) → rows_in l ≡ p → s < p.sets → s < length l.heads.items
unfolding rows_in
set l p s is lt = subst (λ (r : Rows). s < r.sets) (sym is) lt

pub give-requires : goal.give-requires
give-requires c =
    let l = c.self.inside.links in
    let sets = c.self.invariant.sets in
    let below = set l c.args.self.now c.args.item.set c.self.view_is c.requires.set in
    let fits : Fits c.args.item = record {
      set = omega (arith, sets, below);
      tag = omega arith;
      segment = c.requires.segment;
      page = c.requires.page;
      slot = c.requires.slot;
      prediction = omega arith;
    } in
    can-give l c.args.item c.self.invariant (room c.self.inside.links c.args.self.now c.self.invariant c.self.view_is c.requires.room) below fits

pub invariant_of-self : goal.invariant_of-self
invariant_of-self c =
    given-sound c.self.inside.links c.give.new.self c.give.result c.args.item c.self.invariant (room c.self.inside.links c.args.self.now c.self.invariant c.self.view_is c.requires.room) c.give.ensures.at c.give.ensures.given c.give.ensures.nodes c.give.ensures.heads c.give.ensures.count

pub returns : goal.returns
returns c =
    given-rows c.self.inside.links c.give.new.self c.give.result c.args.item c.self.invariant (room c.self.inside.links c.args.self.now c.self.invariant c.self.view_is c.requires.room) c.give.ensures.at c.give.ensures.given c.give.ensures.nodes c.give.ensures.heads c.give.ensures.count
    ∙ ap (λ (p : Rows). with_rows p (record { at = c.give.result; item = c.args.item } ∷ p.rows)) c.self.view_is
