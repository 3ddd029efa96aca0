-- A hash that is there, one for which there is no room, and one for which there is.
use Rattle.std.proofs.Common.{◌≡◌, ◌<◌, ℕ, length, sym, ap, ◌∙◌, arith}
use Rattle.std.proofs.lemmas.Bool.{ltb-true, ltb-false}
use Rattle.entry_pool.specs.StrikeChains.{Pool, pool_of}
use Rattle.entry_pool.specs.Struck.{Struck}
use Rattle.entry_pool.specs.StrikePool.{struck_by, IsStruck}
use Rattle.entry_pool.proofs.StrikeSets.{AddsKnown, AddsNone, AddsNew, row-lt, adds-known, adds-full, adds-none, adds-new, pushed-struck}
use Rattle.entry_pool.proofs.strike_pool.StrikePool.add.Goals as goal

-- the set is one of the pool
within : (p : Pool) (v : Struck) (row : ℕ) → IsStruck p → struck_by p ≡ v → row < length v.sets → row < length p.firsts
within p v row is e lt = let same : length (struck_by p).sets ≡ length v.sets = ap (λ (x : Struck). length x.sets) e in row-lt p is row (omega (arith, lt, same))

pub has-requires-clause-set : goal.has-requires-clause-set
has-requires-clause-set c = within (pool_of c.self.inside.nodes) c.args.self.now c.args.set c.self.invariant c.self.view_is c.requires

known : (c : goal.Then-has) → AddsKnown c.args.self.now c.args.set c.args.hash
known c =
    let p = pool_of c.self.inside.nodes in
    adds-known p c.self.invariant c.args.set c.args.hash (within p c.args.self.now c.args.set c.self.invariant c.self.view_is c.requires) c.args.self.now c.self.view_is c.if-has.ensures

pub returns-then-has-clause-room : goal.returns-then-has-clause-room
returns-then-has-clause-room c = (known c).room

pub returns-then-has-clause-ample : goal.returns-then-has-clause-ample
returns-then-has-clause-ample c = (known c).ample

pub returns-then-has-clause-added : goal.returns-then-has-clause-added
returns-then-has-clause-added c = (known c).added

pub count-requires : goal.count-requires
count-requires c =
    let lt = within (pool_of c.self.inside.nodes) c.args.self.now c.args.set c.self.invariant c.self.view_is c.requires in
    let rows = c.self.invariant.sound.rows in
    omega (arith, lt, rows)

full : (c : goal.Then-count-eq-MAX) → AddsNone c.args.self.now c.args.set c.args.hash
full c =
    let p = pool_of c.self.inside.nodes in
    adds-full p c.self.invariant c.args.set c.args.hash (within p c.args.self.now c.args.set c.self.invariant c.self.view_is c.requires) c.args.self.now c.self.view_is
    c.if-has.ensures (sym c.count.ensures ∙ c.if-count-eq-MAX.true)

pub returns-then-count-eq-MAX-clause-room : goal.returns-then-count-eq-MAX-clause-room
returns-then-count-eq-MAX-clause-room c = (full c).room

pub returns-then-count-eq-MAX-clause-ample : goal.returns-then-count-eq-MAX-clause-ample
returns-then-count-eq-MAX-clause-ample c = (full c).ample

none : (c : goal.Then-not-has_room) → AddsNone c.args.self.now c.args.set c.args.hash
none c =
    let p = pool_of c.self.inside.nodes in
    let counted = c.count.ensures in
    let differs = c.if-count-eq-MAX.false in
    let most = c.self.invariant.sound.few c.args.set in
    let free = ltb-false 0 p.free_count (sym c.if-not-has_room.ensures) in
    adds-none p c.self.invariant c.args.set c.args.hash (within p c.args.self.now c.args.set c.self.invariant c.self.view_is c.requires) c.args.self.now c.self.view_is
    c.if-has.ensures (omega (arith, counted, differs, most)) (omega (arith, free))

pub returns-then-not-has_room-clause-room : goal.returns-then-not-has_room-clause-room
returns-then-not-has_room-clause-room c = (none c).room

pub returns-then-not-has_room-clause-ample : goal.returns-then-not-has_room-clause-ample
returns-then-not-has_room-clause-ample c = (none c).ample

pub push-requires-clause-set : goal.push-requires-clause-set
push-requires-clause-set c = within (pool_of c.self.inside.nodes) c.args.self.now c.args.set c.self.invariant c.self.view_is c.requires

pub invariant_of-self : goal.invariant_of-self
invariant_of-self c = pushed-struck (pool_of c.self.inside.nodes) (pool_of c.push.new.self) c.args.set c.args.hash c.self.invariant c.push.ensures c.if-has.ensures

new : (c : goal.After-push) → AddsNew c.args.self.now c.args.set c.args.hash (struck_by (pool_of c.push.new.self))
new c =
    let p = pool_of c.self.inside.nodes in
    let counted = c.count.ensures in
    let differs = c.if-count-eq-MAX.false in
    let most = c.self.invariant.sound.few c.args.set in
    adds-new p c.self.invariant c.args.set c.args.hash (within p c.args.self.now c.args.set c.self.invariant c.self.view_is c.requires) (pool_of c.push.new.self) c.args.self.now c.self.view_is
    c.push.ensures c.if-has.ensures (omega (arith, counted, differs, most)) (ltb-true 0 p.free_count (sym c.if-not-has_room.ensures))

pub returns-clause-room : goal.returns-clause-room
returns-clause-room c = (new c).room

pub returns-clause-ample : goal.returns-clause-ample
returns-clause-ample c = (new c).ample

pub returns-clause-added : goal.returns-clause-added
returns-clause-added c = (new c).added
