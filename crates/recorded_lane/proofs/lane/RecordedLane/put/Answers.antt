-- The lane after a put that was recorded, or refused.
use Rattle.std.proofs.Common.{◌≡◌, ◌<◌, ◌≤◌, Ok, ℕ, List, [], ◌∷◌, ◌++◌, length, sym, ap, ◌∙◌, subst}
use Rattle.std.specs.Prelude.{All}
use Rattle.record_pages.specs.Bounded.{IsValue}
use Rattle.record_pages.specs.Sizes.{object_size, room}
use Rattle.record_pages.specs.Expiry.{timed}
use Rattle.memory_cache.specs.declared.pair.Pair.{Pair}
use Rattle.mover.specs.Calls.{StorePuts}
use Rattle.trace_file.specs.declared.act.Act.TheVariants.{Put}
use Rattle.deeds.specs.Asked.{Asked}
use Rattle.recorded_lane.specs.declared.noted.Noted.{Noted}
use Rattle.recorded_lane.specs.declared.record_put_fault.RecordPutFault.TheVariants.{TooLarge, HistoryFull}
use Rattle.recorded_lane.specs.Lane.{Lane, IsOfLane, max_calls}
use Rattle.recorded_lane.proofs.Noting.{dropped, noted_step, noted_more, lane_more}
use Rattle.recorded_lane.proofs.Refused.{large_large, large_full, full_large, full_full, memory_large, memory_full, no_fault, other_large, other_full, fits}
use Rattle.recorded_lane.proofs.lane.RecordedLane.put.Goals as goal

pub push-requires : goal.push-requires
push-requires g c = subst IsValue (sym c.bytes.ensures.value) c.bytes.ensures.range

pub invariant_of-self-in-Ok-put : goal.invariant_of-self-in-Ok-put
invariant_of-self-in-Ok-put g c =
    let a = c.args in
    let inside = c.self.inside in
    let old : Lane g.row.D.Denot = record { store = inside.store.store; lane = inside.lane; calls = inside.calls } in
    let with_value : List ℕ → Noted = λ v. record { caller = a.caller; start = a.start; point = a.point; key = a.key; act = Put v a.expires } in
    let more : c.push.new.self ≡ old.calls ++ with_value a.value ∷ [] = c.in-Ok.ensures.ok ∙ ap (λ (v : List ℕ). old.calls ++ with_value v ∷ []) c.bytes.ensures.value in
    let new = c.put.new.self in
    let noted = c.in-Ok-put.ensures in
    let rises = subst (λ (l : Lane g.row.D.Denot). All (λ (m : Noted). m.point < a.point) l.calls) (sym c.self.view_is) c.requires.rises in
    let own = subst (λ (l : Lane g.row.D.Denot). IsOfLane l.store.layout l.lane a.key) (sym c.self.view_is) c.requires.own in
    noted_more old inside.store.deeds c.self.invariant (with_value a.value) new.store c.push.new.self new.deeds more noted.deeds noted.puts.layout c.requires.start rises own (subst (λ k. k < max_calls) c.len.ensures c.if-len-ge-MAX_CALLS.false)

pub invariant_of-self-in_default-put : goal.invariant_of-self-in_default-put
invariant_of-self-in_default-put g c =
    let inside = c.self.inside in
    let old : Lane g.row.D.Denot = record { store = inside.store.store; lane = inside.lane; calls = inside.calls } in
    let new = c.put.new.self in
    let same = c.in_default-put.ensures.refused in
    noted_step old inside.store.deeds c.self.invariant new.store c.drop_last.new.self new.deeds (ap (λ (s : Asked g.row.D.Denot). s.store.layout) same) (dropped c.drop_last.new.self old.calls c.push.new.self _ c.in-Ok.ensures.ok c.drop_last.ensures) (ap (λ (s : Asked g.row.D.Denot). s.deeds) same)

pub returns-clause-recorded : goal.returns-clause-recorded
returns-clause-recorded g c =
    let a = c.args in
    let inside = c.self.inside in
    let old : Lane g.row.D.Denot = record { store = inside.store.store; lane = inside.lane; calls = inside.calls } in
    let with_value : List ℕ → Noted = λ v. record { caller = a.caller; start = a.start; point = a.point; key = a.key; act = Put v a.expires } in
    lane_more c.put.new.self.store old a.self.now c.push.new.self (with_value a.value) c.self.view_is (c.in-Ok.ensures.ok ∙ ap (λ (v : List ℕ). old.calls ++ with_value v ∷ []) c.bytes.ensures.value)

pub returns-clause-puts : goal.returns-clause-puts
returns-clause-puts g c =
    let d = g.D.PageDevice in
    let put : Pair = record { key = c.args.key; value = timed c.args.value c.args.expires } in
    subst (λ (old : Lane g.row.D.Denot). StorePuts g.row.PAGE d.held put c.args.word old.store (Ok c.in-Ok-put.pushed) c.put.new.self.store) c.self.view_is c.in-Ok-put.ensures.puts

pub returns-then-is_too_large-clause-large : goal.returns-then-is_too_large-clause-large
returns-then-is_too_large-clause-large g c = large_large (object_size c.args.key c.args.value) (room g.row.PAGE) (c.is_too_large.ensures.0 c.if-is_too_large.true)

pub returns-then-is_too_large-clause-full : goal.returns-then-is_too_large-clause-full
returns-then-is_too_large-clause-full g c = large_full (object_size c.args.key c.args.value) (room g.row.PAGE) (length c.args.self.now.calls) (c.is_too_large.ensures.0 c.if-is_too_large.true)

pub returns-then-len-ge-MAX_CALLS-clause-large : goal.returns-then-len-ge-MAX_CALLS-clause-large
returns-then-len-ge-MAX_CALLS-clause-large g c = full_large (object_size c.args.key c.args.value) (room g.row.PAGE) (fits c.is_too_large.result (object_size c.args.key c.args.value) (room g.row.PAGE) c.is_too_large.ensures c.if-is_too_large.false)

pub returns-then-len-ge-MAX_CALLS-clause-full : goal.returns-then-len-ge-MAX_CALLS-clause-full
returns-then-len-ge-MAX_CALLS-clause-full g c =
    let count : length c.self.inside.calls ≡ length c.args.self.now.calls = ap (λ (l : Lane g.row.D.Denot). length l.calls) c.self.view_is in
    full_full (object_size c.args.key c.args.value) (room g.row.PAGE) (length c.args.self.now.calls) (fits c.is_too_large.result (object_size c.args.key c.args.value) (room g.row.PAGE) c.is_too_large.ensures c.if-is_too_large.false) (subst (λ k. max_calls ≤ k) (c.len.ensures ∙ count) c.if-len-ge-MAX_CALLS.true)

pub returns-in_default-clause-large : goal.returns-in_default-clause-large
returns-in_default-clause-large g c = memory_large (object_size c.args.key c.args.value) (room g.row.PAGE) (fits c.is_too_large.result (object_size c.args.key c.args.value) (room g.row.PAGE) c.is_too_large.ensures c.if-is_too_large.false)

pub returns-in_default-clause-full : goal.returns-in_default-clause-full
returns-in_default-clause-full g c =
    let count : length c.self.inside.calls ≡ length c.args.self.now.calls = ap (λ (l : Lane g.row.D.Denot). length l.calls) c.self.view_is in
    memory_full (object_size c.args.key c.args.value) (room g.row.PAGE) (length c.args.self.now.calls) (subst (λ k. k < max_calls) (c.len.ensures ∙ count) c.if-len-ge-MAX_CALLS.false)

pub returns-in_default-put-clause-large : goal.returns-in_default-put-clause-large
returns-in_default-put-clause-large g c = memory_large (object_size c.args.key c.args.value) (room g.row.PAGE) (fits c.is_too_large.result (object_size c.args.key c.args.value) (room g.row.PAGE) c.is_too_large.ensures c.if-is_too_large.false)

pub returns-in_default-put-clause-full : goal.returns-in_default-put-clause-full
returns-in_default-put-clause-full g c =
    let count : length c.self.inside.calls ≡ length c.args.self.now.calls = ap (λ (l : Lane g.row.D.Denot). length l.calls) c.self.view_is in
    memory_full (object_size c.args.key c.args.value) (room g.row.PAGE) (length c.args.self.now.calls) (subst (λ k. k < max_calls) (c.len.ensures ∙ count) c.if-len-ge-MAX_CALLS.false)

pub returns-in_default-put-clause-err : goal.returns-in_default-put-clause-err
returns-in_default-put-clause-err g c =
    let inside = c.self.inside in
    let same = c.in_default-put.ensures.refused in
    let calls = dropped c.drop_last.new.self inside.calls c.push.new.self _ c.in-Ok.ensures.ok c.drop_last.ensures in
    (λ i. record { store = (same i).store; lane = inside.lane; calls = calls i }) ∙ c.self.view_is

pub returns-clause-large : goal.returns-clause-large
returns-clause-large g c = other_large (object_size c.args.key c.args.value) (room g.row.PAGE) (Ok c.in-Ok-put.pushed) (no_fault c.in-Ok-put.pushed TooLarge) (fits c.is_too_large.result (object_size c.args.key c.args.value) (room g.row.PAGE) c.is_too_large.ensures c.if-is_too_large.false)

pub returns-clause-full : goal.returns-clause-full
returns-clause-full g c =
    let count : length c.self.inside.calls ≡ length c.args.self.now.calls = ap (λ (l : Lane g.row.D.Denot). length l.calls) c.self.view_is in
    other_full (object_size c.args.key c.args.value) (room g.row.PAGE) (length c.args.self.now.calls) (Ok c.in-Ok-put.pushed) (no_fault c.in-Ok-put.pushed HistoryFull) (subst (λ k. k < max_calls) (c.len.ensures ∙ count) c.if-len-ge-MAX_CALLS.false)
