use Rattle.std.proofs.Common.{◌∙◌, ap}
use Rattle.service_cache.proofs.lane.SeatedLane.number.Goals as goal

pub returns-clause-number : goal.returns-clause-number
returns-clause-number g c = c.number.ensures.number ∙ ap (λ s. s.register.number) c.self.view_is

pub returns-clause-within : goal.returns-clause-within
returns-clause-within g c = c.number.ensures.within

pub returns-clause-seated : goal.returns-clause-seated
returns-clause-seated g c = rw (← c.self.view_is) c.self.invariant.0

pub returns-clause-said : goal.returns-clause-said
returns-clause-said g c = rw (← c.self.view_is) c.self.invariant.1
