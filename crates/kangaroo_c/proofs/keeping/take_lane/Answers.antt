-- What is taken out of a place is what it held.
use Rattle.std.proofs.Common.{ap, ◌∙◌}
use Rattle.kangaroo_c.proofs.keeping.take_lane.Goals as goal

pub into_parts-requires : goal.into_parts-requires
into_parts-requires c = (c.requires.kept, ap (λ h. h.lane) c.replace.ensures.value ∙ c.requires.is)
