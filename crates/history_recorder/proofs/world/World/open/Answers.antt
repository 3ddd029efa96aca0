-- When a world can be opened.
use Rattle.std.proofs.Common.{◌≡◌, ◌<◌, ◌≤◌, ◌+◌, ◌*◌, ◌↔◌, ℕ, Bool, true, false, List, None, Result, Ok, Err, length, map, sym, ◌∙◌, subst, ap, arith}
use Rattle.std.specs.Prelude.{IsTrue, Any, IfErr, IsErrAnd}
use Rattle.std.proofs.lemmas.List.{length-map}
use Rattle.record_pages.specs.Asked.{HasNumbersOf, layout_pages}
use Rattle.record_pages.specs.Table.{first_faulty}
use Rattle.record_pages.specs.declared.config.Config.{Config}
use Rattle.record_pages.specs.declared.layout.Layout.{Layout}
use Rattle.history_recorder.specs.declared.open_world_fault.OpenWorldFault.{OpenWorldFault}
use Rattle.history_recorder.specs.declared.open_world_fault.OpenWorldFault.TheVariants.{OutOfMemory}
use Rattle.history_recorder.specs.Opened.{CanOpen, RefusesWorld}
use Rattle.history_recorder.proofs.world.World.open.Goals as goal

can_open : (size callers : ℕ) (config : Config) (layout : Layout) (pages : List ℕ) (needed : ℕ) (below : Bool) → (first_faulty config ≡ None) × HasNumbersOf layout config → (callers ≡ 0 → ⊥) → length pages ≡ layout.lanes → 256 ≤ size → size ≤ 4096 → needed ≡ layout_pages layout → (IsTrue below ↔ Any (λ p. p < needed) pages) → below ≡ false → CanOpen size config pages callers
can_open size callers config layout pages needed below has some each from to needs one none =
    let same : needed ≡ config.sets + config.segments * config.segment_pages = needs ∙ (λ i. has.1.sets i + has.1.segments i * has.1.segment_pages i) in
    record {
      numbers = has.0;
      some_callers = omega arith;
      one_each = each ∙ has.1.lanes;
      page_size = (from, to);
      large = λ any. let yes : below ≡ true = one.1 (subst (λ n. Any (λ p. p < n) pages) (sym same) any) in absurd cc;
    }

refuses_memory : {X : Type 0} (size callers : ℕ) (config : Config) (pages : List ℕ) (result : Result X OpenWorldFault) → IsErrAnd result (λ e. e ≡ OutOfMemory) → CanOpen size config pages callers → IfErr result (RefusesWorld size config pages callers)
refuses_memory size callers config pages (Ok x) is can = tt
refuses_memory size callers config pages (Err e) is can = subst (RefusesWorld size config pages callers) (sym is) can

pub returns-clause-serves : goal.returns-clause-serves
returns-clause-serves g c =
    let count = g.D.PageDevice.page_count in
    let items = c.args.devices.items in
    can_open g.row.PAGE c.args.callers c.args.config.now c.in_ok-layout.layout (map count items) c.pages.result c.is_one_below.result c.in_ok-layout.ensures c.if-callers-eq0.false (length-map items count ∙ sym (ap (λ (ds : List g.row.D.Denot). length ds) c.as_slice.ensures.value) ∙ c.as_slice.ensures.len ∙ sym c.len.ensures ∙ c.if-len-layout.false) c.if-this-lt256.false c.if-this-gt4096.false c.pages.ensures.pages
    (subst (λ (ds : List g.row.D.Denot). IsTrue c.is_one_below.result ↔ Any (λ p. p < c.pages.result) (map count ds)) c.as_slice.ensures.value c.is_one_below.ensures.one) c.if-is_one_below.false

pub returns-in_err-lanes-clause-refused : goal.returns-in_err-lanes-clause-refused
returns-in_err-lanes-clause-refused g c =
    let count = g.D.PageDevice.page_count in
    let items = c.args.devices.items in
    refuses_memory g.row.PAGE c.args.callers c.args.config.now (map count items) c.from_residual-in_err-lanes.result c.from_residual-in_err-lanes.ensures.1
    (can_open g.row.PAGE c.args.callers c.args.config.now c.in_ok-layout.layout (map count items) c.pages.result c.is_one_below.result c.in_ok-layout.ensures c.if-callers-eq0.false (length-map items count ∙ sym (ap (λ (ds : List g.row.D.Denot). length ds) c.as_slice.ensures.value) ∙ c.as_slice.ensures.len ∙ sym c.len.ensures ∙ c.if-len-layout.false) c.if-this-lt256.false c.if-this-gt4096.false c.pages.ensures.pages
    (subst (λ (ds : List g.row.D.Denot). IsTrue c.is_one_below.result ↔ Any (λ p. p < c.pages.result) (map count ds)) c.as_slice.ensures.value c.is_one_below.ensures.one) c.if-is_one_below.false)
