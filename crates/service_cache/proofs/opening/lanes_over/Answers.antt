-- The devices that are left are large enough, and as honest as is said, as all were; and each lane is new.
use Rattle.std.proofs.Common.{rules, ◌≡◌, ◌≤◌, ◌<◌, ◌+◌, ◌++◌, ◌∷◌, [], ℕ, suc, Some, All, length, ap, ◌∙◌, sym, subst, arith}
use Rattle.std.specs.Prelude.{IsTrue, slice_get}
use Rattle.std.proofs.lemmas.List.Elements.{All-head, All-tail, All-push, All-same}
use Rattle.key_hash.specs.declared.random_seed.RandomSeed.{RandomSeed}
use Rattle.page_device.specs.Counting.{CountedDevice}
use Rattle.record_pages.specs.Asked.{layout_pages}
use Rattle.record_pages.specs.declared.layout.Layout.{Layout}
use Rattle.service_lane.specs.Words.{words_for}
use Rattle.deed_book.specs.Registers.{Registered}
use Rattle.service_cache.specs.Held.{IsNewLane, IsNewSeated}
use Rattle.service_cache.specs.Seated.{Seated}
use Rattle.service_cache.specs.declared.service_options.ServiceOptions.{ServiceOptions}
use Rattle.service_cache.proofs.opening.lanes_over.Goals as goal

-- a lane that was opened with a register is new by the register's number
new_seated :
    {D : Type 0} (layout : Layout) (options : ServiceOptions) (seed : RandomSeed) (register : Registered) (device : D) (new : Seated (CountedDevice D)) → IsNewLane layout options.lease_slots options.bring_back seed register.number device new.serving → new.register ≡ register → new.words ≡ words_for seed register.number →
    IsNewSeated layout options seed new
new_seated layout options seed register device new serving same words = record {
  device = device;
  serving = subst (λ (r : Registered). IsNewLane layout options.lease_slots options.bring_back seed r.number device new.serving) (sym same) serving;
  words = words ∙ ap (λ (r : Registered). words_for seed r.number) (sym same);
}

pub loop-preserved : goal.loop-preserved
loop-preserved g c =
    let a = c.args in
    let Large : g.row.D.Denot → Type 0 = λ d. layout_pages a.layout.now ≤ g.D.PageDevice.page_count d in
    let was = c.loop.invariant in
    let lane = c.in-Ok.lane in
    let e = c.in-Ok.ensures in
    let new = new_seated a.layout.now a.options.now a.seed c.register-register.result c.in-Some.device lane e.serving e.register e.words in record {
      made = search rules;
      new = All-same (IsNewSeated a.layout.now a.options.now a.seed) c.push.new.self.items (c.loop.lanes.items ++ lane ∷ []) c.in_ok-push.ensures.items (All-push (IsNewSeated a.layout.now a.options.now a.seed) c.loop.lanes.items lane was.new new);
      left = search rules;
      given = search rules;
      room = All-tail Large c.in-Some.device c.pop_front.new.self.items (subst (λ ds. All Large ds) c.in-Some.ensures.items was.room);
      said = λ place device at told.
          let moved : place + (c.loop.counter + 1) ≡ suc place + c.loop.counter = omega arith in
          was.said (suc place) device (ap (λ ds. slice_get ds (suc place)) c.in-Some.ensures.items ∙ at) (subst (λ n. IsTrue (g.L.KeyLanes.is_honest n)) moved told);
    }

pub seated_over-requires : goal.seated_over-requires
seated_over-requires g c =
    let Large : g.row.D.Denot → Type 0 = λ d. layout_pages c.args.layout.now ≤ g.D.PageDevice.page_count d in
    let was = c.loop.invariant in
    let each = c.requires.one_each in
    let few = c.requires.few in
    let counted = ap (λ r. r.number) c.register-register.ensures.register ∙ was.given in
    let number : c.register-register.result.number ≡ 0 + c.loop.counter = omega (arith, counted) in (
      omega arith,
      (
        c.requires.page_size,
        (
          c.requires.slots,
          (
            All-head Large c.in-Some.device c.pop_front.new.self.items (subst (λ ds. All Large ds) c.in-Some.ensures.items was.room),
            (
              omega (arith, each, few),
              λ told. was.said 0 c.in-Some.device (ap (λ ds. slice_get ds 0) c.in-Some.ensures.items) (subst (λ n. IsTrue (g.L.KeyLanes.is_honest n)) number told),
            ),
          ),
        ),
      ),
    )
