-- An empty pool is sound.
use Rattle.std.proofs.Common.{◌≡◌, length, replicate, refl, arith, rules}
use Rattle.entry_pool.specs.Chains.{none}
use Rattle.entry_pool.proofs.FreshLaws.{fresh-sound, fresh-rows}
use Rattle.entry_pool.proofs.pool.EntryPool.open.Goals as goal

pub invariant_of-result : goal.invariant_of-result
invariant_of-result c =
    let heads : c.in_ok-heads.heads.items ≡ replicate c.args.sets none = search rules in
    let counted : length c.in_ok-heads.heads.items ≡ c.args.sets = search rules in
    fresh-sound (record { nodes = c.in_ok-nodes.nodes; heads = c.in_ok-heads.heads; newest = none; oldest = none; free = c.last_of.result; count = 0 }) c.args.limit c.args.sets (omega arith) c.in_ok-nodes.ensures heads counted c.requires.sets refl refl c.last_of.ensures refl

pub returns : goal.returns
returns c =
    let heads : c.in_ok-heads.heads.items ≡ replicate c.args.sets none = search rules in
    let counted : length c.in_ok-heads.heads.items ≡ c.args.sets = search rules in
    fresh-rows (record { nodes = c.in_ok-nodes.nodes; heads = c.in_ok-heads.heads; newest = none; oldest = none; free = c.last_of.result; count = 0 }) c.args.limit c.args.sets (omega arith) c.in_ok-nodes.ensures heads counted c.requires.sets refl refl c.last_of.ensures refl
