use Rattle.std.proofs.Common.{List, ◌<◌, length, subst, sym}
use Rattle.shared_cache.specs.Listed.{Listed}
use Rattle.shared_cache.proofs.Keeping.{kept_lane, kept_within}
use Rattle.shared_cache.proofs.listed_calls.ListedCalls.lane_at.Goals as goal

pub returns : goal.returns
returns c =
    let p = c.self.inside in
    let low = kept_within p.bytes.now p.entries.now c.args.place (subst (λ (ls : List Listed). c.args.place < length ls) (sym c.self.view_is) c.requires) in
    rw (← c.self.view_is) (kept_lane p.bytes.now p.entries.now c.args.place _ low)
