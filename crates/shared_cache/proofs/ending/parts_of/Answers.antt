use Rattle.std.proofs.Common.{refl}
use Rattle.shared_cache.proofs.LanesOver.{over_by}
use Rattle.shared_cache.proofs.ending.parts_of.Goals as goal

pub returns-clause-over : goal.returns-clause-over
returns-clause-over g c =
    let is = c.if-not-is_of.ensures.0 refl in
    over_by _ _ c.args.layout.now _ _ _ _ is.1 is.0 c.into_parts.ensures
