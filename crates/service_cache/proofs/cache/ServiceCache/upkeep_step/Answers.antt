-- The lane that was held has the number.
use Rattle.std.proofs.Common.{ap, ◌∙◌}
use Rattle.crossbeam_utils.specs.Padded.{padded_value}
use Rattle.page_device.specs.Counting.{CountedDevice}
use Rattle.service_cache.specs.Seated.{Seated}
use Rattle.service_cache.proofs.cache.ServiceCache.upkeep_step.Goals as goal

pub returns : goal.returns
returns g c = record {
  old = c.deref_mut-held.result.now;
  new = c.upkeep_step.new.self;
  number_is = ap (λ (s : Seated (CountedDevice g.row.D.Denot)). s.register.number) (c.deref_mut-held.ensures.value ∙ ap padded_value c.deref_mut.ensures.value) ∙ c.hold-guard.ensures;
  did = record { policy = c.self.inside.policy; upkept = c.upkeep_step.ensures.upkept; asked = c.upkeep_step.ensures.asked; due = c.upkeep_step.ensures.due };
}
