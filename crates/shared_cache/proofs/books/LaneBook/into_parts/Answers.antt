use Rattle.std.proofs.Common.{◌∙◌}
use Rattle.shared_cache.proofs.LanesOver.{over_recorded}
use Rattle.shared_cache.proofs.books.LaneBook.into_parts.Goals as goal

pub returns : goal.returns
returns g c =
    let told = c.into_parts-calls.ensures in
    rw (← c.self.view_is) (over_recorded _ _ c.self.inside.recorded _ _ c.len-count.ensures.recorded told.calls (c.into_inner.ensures ∙ told.device))
