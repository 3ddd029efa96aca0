use Rattle.std.proofs.Common.{◌≡◌, length, ap, ◌∙◌, arith}
use Rattle.entry_pool.specs.Rows.{Rows}
use Rattle.entry_pool.specs.Pool.{rows_in}
use Rattle.entry_pool.proofs.pool.EntryPool.limit.Goals as goal

pub returns : goal.returns
unfolding rows_in
returns c =
    let n : c.len.result ≡ length c.self.inside.links.nodes.items = omega (arith, c.len.ensures) in
    n ∙ ap (λ (p : Rows). p.limit) c.self.view_is
