use Rattle.std.proofs.Common.{◌≡◌, Some, Option, List, ℕ, ap, subst, sym, ◌∙◌}
use Rattle.std.specs.Prelude.{IfSome, IsTrue}
use Rattle.record_pages.specs.Expiry.{timed}
use Rattle.record_pages.specs.declared.answer.Answer.TheVariants.{Hit}
use Rattle.record_pages.specs.declared.tier.Tier.TheVariants.{Memory}
use Rattle.memory_cache.specs.MemoryList.{value_in}
use Rattle.mover.specs.Store.{StoreState}
use Rattle.mover.specs.Touch.{answer_at, touched, LooksBelow}
use Rattle.mover.proofs.Getting.{told_by_memory}
use Rattle.mover.proofs.public_laws.Keeping.{kept_device}
use Rattle.mover.proofs.Recalling.{recalled_live, recalled_absent}
use Rattle.mover.proofs.Touching.{below_gets}
use Rattle.mover.specs.Lane.{lane_of}
use Rattle.mover.specs.Timed.{flash_timed, first_timed, memory_timed, expiry_at, expiry_at_memory, TellsExpiry}
use Rattle.mover.proofs.Timing.{if_some}
use Rattle.mover.proofs.store.Store.locate.Goals as goal

pub returns-in-Live-clause-gets : goal.returns-in-Live-clause-gets
returns-in-Live-clause-gets g c =
    let d = g.D.PageDevice in
    let key = c.args.key.now in
    let old = c.args.self.now in
    let value = c.set.new.self in
    told_by_memory g.row.PAGE d.honest d.failures d.held key c.args.moment old (Hit value Memory) _
    (recalled_live key c.args.moment old (value_in key old.memory.pairs) value (ap (λ (v : List ℕ). Some (Some v)) (c.set.ensures ∙ c.bytes.ensures.value) ∙ c.in-Live.ensures.value))

pub invariant_of-self : goal.invariant_of-self
invariant_of-self g c =
    let s = c.self.inside in
    let d = g.D.PageDevice in
    kept_device g.row.PAGE d.page_count d.honest d.held (record { layout = s.layout; device = s.device; memory = s.memory; log = s.log; sets = s.sets; flights = s.flights; moves = s.moves }) c.self.invariant
    c.locate_below.new.device c.locate_below.ensures.pages c.locate_below.ensures.honest c.locate_below.ensures.same

pub returns-in-Absent-clause-gets : goal.returns-in-Absent-clause-gets
returns-in-Absent-clause-gets g c =
    let s = c.self.inside in
    let d = g.D.PageDevice in
    let key = c.args.key.now in
    let old = c.args.self.now in
    let below = c.locate_below in
    let was : StoreState g.row.D.Denot = record { layout = s.layout; device = s.device; memory = s.memory; log = s.log; sets = s.sets; flights = s.flights; moves = s.moves } in
    below_gets g.row.PAGE d.honest d.failures d.held key c.args.moment old (recalled_absent c.args.moment (value_in key old.memory.pairs) c.in-Absent.ensures.value)
    (answer_at below.result below.new.found) (touched key below.result (record was { device = below.new.device }))
    (subst (λ (x : StoreState g.row.D.Denot). LooksBelow g.row.PAGE d.honest d.failures d.held key c.args.moment x (answer_at below.result below.new.found) (touched key below.result (record was { device = below.new.device }))) c.self.view_is
    (below.ensures.looks was c.self.invariant))

pub returns-in-Live-clause-expires : goal.returns-in-Live-clause-expires
returns-in-Live-clause-expires g c =
    let key = c.args.key.now in
    let old = c.args.self.now in
    let lane = lane_of g.D.PageDevice.held old in
    let there : value_in key old.memory.pairs ≡ Some (timed c.set.new.self c.in-Live.timed.now.expires) =
    c.in-Live.ensures.whole ∙ ap (λ (v : List ℕ). Some (timed v c.in-Live.timed.now.expires)) (sym (c.set.ensures ∙ c.bytes.ensures.value)) in
    record { memory = there; lane = λ on. ap (memory_timed key lane) there }

pub returns-in-Absent-clause-expires : goal.returns-in-Absent-clause-expires
returns-in-Absent-clause-expires g c =
    let s = c.self.inside in
    let d = g.D.PageDevice in
    let key = c.args.key.now in
    let old = c.args.self.now in
    let lane = lane_of d.held old in
    let below = c.locate_below in
    let absent = recalled_absent c.args.moment (value_in key old.memory.pairs) c.in-Absent.ensures.value in
    let was : StoreState g.row.D.Denot = record { layout = s.layout; device = s.device; memory = s.memory; log = s.log; sets = s.sets; flights = s.flights; moves = s.moves } in
    record {
      memory = subst (λ (o : Option ℕ). IfSome o (λ expires. value_in key old.memory.pairs ≡ Some (timed below.new.found expires))) (sym below.ensures.below) tt;
      lane = λ on.
          if_some (expiry_at below.result) (λ expires. flash_timed key lane ≡ Some (timed below.new.found expires)) (λ expires. first_timed key lane ≡ Some (timed below.new.found expires))
          (λ expires it. ap (memory_timed key lane) absent ∙ it)
          (subst (λ (x : StoreState g.row.D.Denot). IsTrue (d.honest x.device) → IfSome (expiry_at below.result) (λ expires. flash_timed key (lane_of d.held x) ≡ Some (timed below.new.found expires))) c.self.view_is
          (below.ensures.timed was c.self.invariant) on);
    }
