-- The lane after a get that was answered.
use Rattle.std.proofs.Common.{◌≡◌, ◌≢◌, ◌↔◌, Result, Ok, Err, ◌∙◌, refl, ap, subst}
use Rattle.mover.specs.Get.{answer_of}
use Rattle.record_pages.specs.declared.answer.Answer.{Answer}
use Rattle.service_lane.specs.Counters.{with_one, with_one_if}
use Rattle.service_lane.specs.Counting.{counter_of_copied, counter_of_fate, fate_after}
use Rattle.std.specs.Prelude.{IsTrue, option_and_then}
use Rattle.service_lane.specs.Asked.{TellsExpiry}
use Rattle.service_lane.specs.Serving.{Serving, Gets}
use Rattle.service_lane.proofs.Writing.{counted_got}
use denote.Param.{param, number}
use Rattle.service_lane.proofs.Fitting.{asked_fits}
use Rattle.service_lane.proofs.lane.ServiceLane.get.Goals as goal

-- what was answered was not refused, told by this result or that
answered_alike : {A B E P : Type 0} (r : Result A E) (s : Result B E) (x : A) (y : B) (e : E) → r ≡ Ok x → s ≡ Ok y → ((r ≡ Err e) ↔ P) → (s ≡ Err e) ↔ P
answered_alike r s x y e r_is s_is told = (λ is. absurd (cc), λ p. let no = told.1 p in absurd (cc))

-- what was refused was refused so, told by this result or that
refused_alike : {A B E P : Type 0} (r : Result A E) (s : Result B E) (f e : E) → r ≡ Err f → s ≡ Err f → ((r ≡ Err e) ↔ P) → (s ≡ Err e) ↔ P
refused_alike r s f e r_is s_is told = (λ is. told.0 (cc), λ p. let so = told.1 p in cc)

refused_else : {A B E : Type 0} (r : Result A E) (s : Result B E) (f e : E) → r ≡ Err f → s ≡ Err f → r ≢ Err e → s ≢ Err e
refused_else r s f e r_is s_is else_is = λ is. else_is (cc)

pub invariant_of-self : goal.invariant_of-self
invariant_of-self g c = counted_got c.self.inside.asked.deeds c.get_into-seen.new.self.deeds c.args.key.now c.args.moment (answer_of c.get_into-seen.result.kind c.get_into-seen.new.found) c.self.inside.slots c.get_into-seen.ensures.deeds c.self.invariant

pub returns-in-Ok-clause-gets : goal.returns-in-Ok-clause-gets
returns-in-Ok-clause-gets g c =
    let d = g.D.PageDevice in
    let a = c.args in
    let asked = c.get_into-seen.new.self in
    let counts = c.self.inside.counts in
    let answer : Answer = answer_of c.get_into-seen.result.kind c.get_into-seen.new.found in
    let old : Serving g.row.D.Denot = record { store = c.self.inside.asked.store; deeds = c.self.inside.asked.deeds; copies = c.self.inside.asked.copies; slots = c.self.inside.slots; counts = counts } in
    let new : Serving g.row.D.Denot = record { store = asked.store; deeds = asked.deeds; copies = asked.copies; slots = c.self.inside.slots; counts = c.count_if-in-Ok.new.self } in
    let got : Gets g.row.PAGE d.honest d.failures d.held c.args.key.now a.moment answer old new =
    record {
      live = c.get_into-seen.ensures.live;
      deeds = c.get_into-seen.ensures.deeds;
      copied = c.get_into-seen.result.copied;
      counts =
          c.count_if-in-Ok.ensures ∙ ap (λ k. with_one_if k c.count_if.new.self) c.of_fate_after.ensures
          ∙ ap (with_one_if (option_and_then counter_of_fate (fate_after c.get_into-seen.result.copied)))
          (c.count_if.ensures ∙ ap (λ k. with_one_if k c.count.new.self) c.of_copied.ensures
          ∙ ap (with_one_if (counter_of_copied c.get_into-seen.result.copied)) (c.count.ensures ∙ ap (λ k. with_one k counts) (c.of_answer.ensures c.get_into-seen.new.found)));
      slots = refl;
      gets = c.get_into-seen.ensures.gets;
    } in
    subst (λ (s : Serving g.row.D.Denot). Gets g.row.PAGE d.honest d.failures d.held a.key.now a.moment answer s new) c.self.view_is got

pub returns-in-Ok-clause-expires : goal.returns-in-Ok-clause-expires
returns-in-Ok-clause-expires g c =
    subst (λ (s : Serving g.row.D.Denot). TellsExpiry (IsTrue (g.D.PageDevice.honest s.store.device)) s.deeds c.args.key.now c.get_into-seen.new.found c.get_into-seen.result.kind) c.self.view_is c.get_into-seen.ensures.expires

pub returns-in-Ok-clause-untouched : goal.returns-in-Ok-clause-untouched
returns-in-Ok-clause-untouched g c = c.get_into-seen.ensures.untouched

pub returns-in-Ok-clause-empty : goal.returns-in-Ok-clause-empty
returns-in-Ok-clause-empty g c = answered_alike c.check_key.result (Ok c.get_into-seen.result.kind) _ _ _ c.in-Ok.is refl c.check_key.ensures.empty

pub returns-in-Err-clause-empty : goal.returns-in-Err-clause-empty
returns-in-Err-clause-empty g c = refused_alike c.check_key.result (Err c.in-Err.fault) _ _ c.in-Err.is refl c.check_key.ensures.empty

pub returns-in-Ok-clause-too_long : goal.returns-in-Ok-clause-too_long
returns-in-Ok-clause-too_long g c = answered_alike c.check_key.result (Ok c.get_into-seen.result.kind) _ _ _ c.in-Ok.is refl c.check_key.ensures.too_long

pub returns-in-Err-clause-too_long : goal.returns-in-Err-clause-too_long
returns-in-Err-clause-too_long g c = refused_alike c.check_key.result (Err c.in-Err.fault) _ _ c.in-Err.is refl c.check_key.ensures.too_long

pub returns-in-Err-clause-memory : goal.returns-in-Err-clause-memory
returns-in-Err-clause-memory g c = refused_else c.check_key.result (Err c.in-Err.fault) _ _ c.in-Err.is refl c.check_key.ensures.memory

pub returns-in-Ok-clause-refused : goal.returns-in-Ok-clause-refused
returns-in-Ok-clause-refused g c = tt

pub returns-in-Ok-clause-refused_found : goal.returns-in-Ok-clause-refused_found
returns-in-Ok-clause-refused_found g c = tt

pub returns-in-Err-clause-gets : goal.returns-in-Err-clause-gets
returns-in-Err-clause-gets g c = tt

pub returns-in-Err-clause-expires : goal.returns-in-Err-clause-expires
returns-in-Err-clause-expires g c = tt

pub returns-in-Err-clause-untouched : goal.returns-in-Err-clause-untouched
returns-in-Err-clause-untouched g c = tt

pub returns-in-Err-clause-refused : goal.returns-in-Err-clause-refused
returns-in-Err-clause-refused g c = refl

pub returns-in-Err-clause-refused_found : goal.returns-in-Err-clause-refused_found
returns-in-Err-clause-refused_found g c = refl

pub get_into-seen-requires : goal.get_into-seen-requires
get_into-seen-requires g c = asked_fits (param 0 g.row.D) (param 1 (number g.row.PAGE)) g.D.PageDevice assumption
