-- After a removal no value is live, and a step of upkeep adds no deed.
use Rattle.std.proofs.Common.{◌∙◌, refl, subst}
use Rattle.std.specs.Prelude.{IfOk}
use Rattle.record_pages.specs.declared.tier.Tier.TheVariants.{Memory}
use Rattle.mover.specs.Get.{answer_of}
use Rattle.mover.specs.declared.answer_kind.AnswerKind.TheVariants.{Hit}
use Rattle.service_lane.specs.Serving.{Gets}
use Rattle.service_tests.proofs.LaneRows.{removed_is_not_live, in_memory, in_any, upkept_adds_none}
use Rattle.service_tests.proofs.tests.lane.rows.a_removed_key_is_not_hit.Goals as goal

pub returns-clause-memory : goal.returns-clause-memory
returns-clause-memory g c = λ told is.
    let a = c.args in
    let d = g.D.PageDevice in
    let removed = c.remove.new.self in
    let tended = c.upkeep_step-step.new.self in
    let found = c.get.new.found in
    let stays = upkept_adds_none g.row.PAGE d.honest d.failures d.held (g.P.EvictionPolicy.plan_of a.policy.now) removed c.upkeep_step-step.result.did tended c.upkeep_step-step.ensures.upkept in
    let got = subst (λ r. IfOk r (λ seen. Gets g.row.PAGE d.honest d.failures d.held a.name.now a.moment (answer_of seen found) tended c.get.new.self)) is c.get.ensures.gets in
    let live = in_memory d.honest tended.store.device tended.deeds a.name.now found a.moment (Hit Memory told) told refl got.live in
    removed_is_not_live c.latest_is_current.ensures a.lane.now.deeds tended.deeds a.name.now found a.moment (stays ∙ c.in_ok-remove.ensures.removed.deeds) live

pub returns-clause-flash : goal.returns-clause-flash
returns-clause-flash g c = λ all tier told is.
    let a = c.args in
    let d = g.D.PageDevice in
    let removed = c.remove.new.self in
    let tended = c.upkeep_step-step.new.self in
    let found = c.get.new.found in
    let stays = upkept_adds_none g.row.PAGE d.honest d.failures d.held (g.P.EvictionPolicy.plan_of a.policy.now) removed c.upkeep_step-step.result.did tended c.upkeep_step-step.ensures.upkept in
    let got = subst (λ r. IfOk r (λ seen. Gets g.row.PAGE d.honest d.failures d.held a.name.now a.moment (answer_of seen found) tended c.get.new.self)) is c.get.ensures.gets in
    let live = in_any d.honest tended.store.device tended.deeds a.name.now found a.moment (Hit tier told) tier told all refl got.live in
    removed_is_not_live c.latest_is_current.ensures a.lane.now.deeds tended.deeds a.name.now found a.moment (stays ∙ c.in_ok-remove.ensures.removed.deeds) live

pub remove-requires : goal.remove-requires
remove-requires g c = assumption

pub upkeep_step-step-requires : goal.upkeep_step-step-requires
upkeep_step-step-requires g c = assumption

pub get-requires : goal.get-requires
get-requires g c = assumption
