use Rattle.std.proofs.Common.{◌<◌, length, sym, ◌∙◌, arith, ap}
use Rattle.std.proofs.lemmas.List.{get_or_read}
use Rattle.entry_pool.specs.StrikeChains.{pool_of, is_among}
use Rattle.entry_pool.proofs.StrikeMoves.{marks-none}
use Rattle.entry_pool.proofs.StrikeSearch.{searches-all, at-lt, found, searches-on}
use Rattle.entry_pool.proofs.strike_nodes.StrikeNodes.has.Goals as goal

pub loop-left-init : goal.loop-left-init
loop-left-init c = searches-all (pool_of c.args.self.now) c.args.set c.args.hash c.count-left.result c.first-at.result c.requires.sound c.count-left.ensures c.first-at.ensures

-- a set that has no node has no hash
pub returns-then-left-eq0 : goal.returns-then-left-eq0
returns-then-left-eq0 c =
    let p = pool_of c.args.self.now in
    sym (ap (is_among c.args.hash) (marks-none p c.args.set (sym c.count-left.ensures ∙ c.if-left-eq0.true)))

pub index-requires : goal.index-requires
index-requires c =
    let lt = at-lt (pool_of c.args.self.now) c.args.set c.args.hash c.loop-left.left c.loop-left.at c.loop-left.invariant c.loop-left-test.true in
    let same = c.requires.sound.nodes in
    omega (arith, lt, same)

pub returns-then-index-hash : goal.returns-then-index-hash
returns-then-index-hash c =
    let p = pool_of c.args.self.now in
    let lt = at-lt p c.args.set c.args.hash c.loop-left.left c.loop-left.at c.loop-left.invariant c.loop-left-test.true in
    let same = c.requires.sound.nodes in
    let there : c.loop-left.at < length p.hashes = omega (arith, lt, same) in
    found p c.args.set c.args.hash c.loop-left.left c.loop-left.at c.loop-left.invariant c.loop-left-test.true
    (sym c.if-index-hash.true ∙ get_or_read p.hashes c.loop-left.at c.index.result.now there c.index.ensures 0)

pub next-at-requires : goal.next-at-requires
next-at-requires c = at-lt (pool_of c.args.self.now) c.args.set c.args.hash c.loop-left.left c.loop-left.at c.loop-left.invariant c.loop-left-test.true

pub loop-left-preserved : goal.loop-left-preserved
loop-left-preserved c =
    let p = pool_of c.args.self.now in
    let lt = at-lt p c.args.set c.args.hash c.loop-left.left c.loop-left.at c.loop-left.invariant c.loop-left-test.true in
    let same = c.requires.sound.nodes in
    let there : c.loop-left.at < length p.hashes = omega (arith, lt, same) in
    searches-on p c.args.set c.args.hash c.loop-left.left c.loop-left.at c.loop-left.invariant c.loop-left-test.true c.next-at.result
    (λ e. c.if-index-hash.false (get_or_read p.hashes c.loop-left.at c.index.result.now there c.index.ensures 0 ∙ sym e))
    c.next-at.ensures
