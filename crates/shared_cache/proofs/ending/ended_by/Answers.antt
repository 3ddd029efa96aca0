-- The lanes' calls, each listed once, or why they are not, by passes in this order.
use Rattle.std.proofs.Common.{rules, ◌≡◌, ◌∙◌, Err, sym, subst, length, map, arith}
use Rattle.std.specs.Prelude.{IfNone, IfSome}
use Rattle.std.proofs.lemmas.List.{length-map}
use Rattle.recorded_lane.specs.Points.{noted_in}
use Rattle.shared_cache.specs.declared.finish_fault.FinishFault.TheVariants.{OutOfMemory}
use Rattle.shared_cache.specs.declared.lane_left.LaneLeft.{LaneLeft}
use Rattle.shared_cache.specs.Settled.{AreSettled, IsFirstPlace, IsOutAt, IsRefused, recorded_in}
use Rattle.shared_cache.proofs.SideBySide.{AreIn, all_ended, as_many_settled, as_recorded, lists_of, listed_all, none_outside, not_ended, strange_end, strange_within}
use Rattle.shared_cache.proofs.ending.ended_by.Goals as goal

pub returns-in_err-lists-clause-refused : goal.returns-in_err-lists-clause-refused
returns-in_err-lists-clause-refused g c =
    let is : c.from_residual.result ≡ Err OutOfMemory = search rules in
    rw is tt

pub returns-in_err-settled-clause-refused : goal.returns-in_err-settled-clause-refused
returns-in_err-settled-clause-refused g c =
    let is : c.from_residual-in_err-settled.result ≡ Err OutOfMemory = search rules in
    rw is tt

pub caller_of-requires : goal.caller_of-requires
caller_of-requires g c =
    let order = c.args.passes.now in
    let lists : c.as_slice.result.now ≡ lists_of order = c.as_slice.ensures.value ∙ c.in_ok-lists.ensures in
    let settled = c.in_ok-settled.settled.items in
    let recorded = recorded_in c.args.left.items in
    let all : AreSettled 0 (lists_of order) recorded settled = subst (λ ls. AreSettled 0 ls recorded settled) lists c.in_ok-settled.ensures in
    let told : ¬ IsRefused settled = λ refused. let never = c.if-is_refused.ensures.1 (rw c.as_slice-2.ensures.value refused) in absurd cc in
    let len : c.len-lanes.result ≡ length c.args.left.items = search rules in
    let many : c.len-lanes.result ≡ length recorded = len ∙ sym (length-map c.args.left.items (λ (l : LaneLeft). map noted_in l.recorded)) in
    let same : c.as_slice-3.result.now ≡ lists_of order = c.as_slice-3.ensures.value ∙ c.in_ok-lists.ensures in
    let outside = c.place_outside-outside.result in
    let none : IfNone outside (AreIn (length recorded) (lists_of order)) = rw (← many, ← same) c.place_outside-outside.ensures.none in
    let some : IfSome outside (IsOutAt (length recorded) (lists_of order)) = rw (← many, ← same) c.place_outside-outside.ensures.some in
    strange_within order recorded settled outside c.in-Some.place all told none some (subst (λ rs. IsFirstPlace outside rs c.in-Some.place) c.as_slice-4.ensures.value c.in-Some.ensures)

pub returns-in-Some-clause-refused : goal.returns-in-Some-clause-refused
returns-in-Some-clause-refused g c =
    let order = c.args.passes.now in
    let lists : c.as_slice.result.now ≡ lists_of order = c.as_slice.ensures.value ∙ c.in_ok-lists.ensures in
    let settled = c.in_ok-settled.settled.items in
    let recorded = recorded_in c.args.left.items in
    let all : AreSettled 0 (lists_of order) recorded settled = subst (λ ls. AreSettled 0 ls recorded settled) lists c.in_ok-settled.ensures in
    let told : ¬ IsRefused settled = λ refused. let never = c.if-is_refused.ensures.1 (rw c.as_slice-2.ensures.value refused) in absurd cc in
    let len : c.len-lanes.result ≡ length c.args.left.items = search rules in
    let many : c.len-lanes.result ≡ length recorded = len ∙ sym (length-map c.args.left.items (λ (l : LaneLeft). map noted_in l.recorded)) in
    let same : c.as_slice-3.result.now ≡ lists_of order = c.as_slice-3.ensures.value ∙ c.in_ok-lists.ensures in
    let outside = c.place_outside-outside.result in
    let none : IfNone outside (AreIn (length recorded) (lists_of order)) = rw (← many, ← same) c.place_outside-outside.ensures.none in
    let some : IfSome outside (IsOutAt (length recorded) (lists_of order)) = rw (← many, ← same) c.place_outside-outside.ensures.some in
    let first = subst (λ rs. IsFirstPlace outside rs c.in-Some.place) c.as_slice-4.ensures.value c.in-Some.ensures in
    strange_end order recorded settled outside c.in-Some.place c.caller_of.result all told none some first c.caller_of.ensures

pub all_settled-requires-clause-few : goal.all_settled-requires-clause-few
all_settled-requires-clause-few g c =
    let order = c.args.passes.now in
    let lists : c.as_slice.result.now ≡ lists_of order = c.as_slice.ensures.value ∙ c.in_ok-lists.ensures in
    let settled = c.in_ok-settled.settled.items in
    let recorded = recorded_in c.args.left.items in
    let all : AreSettled 0 (lists_of order) recorded settled = subst (λ ls. AreSettled 0 ls recorded settled) lists c.in_ok-settled.ensures in
    let few = as_many_settled 0 (lists_of order) recorded settled all in
    let many = length-map c.args.left.items (λ (l : LaneLeft). map noted_in l.recorded) in
    omega (arith, few, many, c.requires.few)

pub returns-in-Ok-clause-listed : goal.returns-in-Ok-clause-listed
returns-in-Ok-clause-listed g c = λ h.
    let order = c.args.passes.now in
    let lists : c.as_slice.result.now ≡ lists_of order = c.as_slice.ensures.value ∙ c.in_ok-lists.ensures in
    let settled = c.in_ok-settled.settled.items in
    let recorded = recorded_in c.args.left.items in
    let all : AreSettled 0 (lists_of order) recorded settled = subst (λ ls. AreSettled 0 ls recorded settled) lists c.in_ok-settled.ensures in
    let told : ¬ IsRefused settled = λ refused. let never = c.if-is_refused.ensures.1 (rw c.as_slice-2.ensures.value refused) in absurd cc in
    let len : c.len-lanes.result ≡ length c.args.left.items = search rules in
    let many : c.len-lanes.result ≡ length recorded = len ∙ sym (length-map c.args.left.items (λ (l : LaneLeft). map noted_in l.recorded)) in
    let same : c.as_slice-3.result.now ≡ lists_of order = c.as_slice-3.ensures.value ∙ c.in_ok-lists.ensures in
    let outside = c.place_outside-outside.result in
    let none : IfNone outside (AreIn (length recorded) (lists_of order)) = rw (← many, ← same) c.place_outside-outside.ensures.none in
    let some : IfSome outside (IsOutAt (length recorded) (lists_of order)) = rw (← many, ← same) c.place_outside-outside.ensures.some in
    let within = none_outside (AreIn (length recorded) (lists_of order)) outside c.in_default.ensures.0 none in
    listed_all h order recorded c.in-Ok.lanes.items (subst (λ rs. AreSettled 0 (lists_of order) recorded rs) c.in-Ok.ensures.all all) within

pub returns-in-Ok-clause-calls : goal.returns-in-Ok-clause-calls
returns-in-Ok-clause-calls g c =
    let order = c.args.passes.now in
    let lists : c.as_slice.result.now ≡ lists_of order = c.as_slice.ensures.value ∙ c.in_ok-lists.ensures in
    let settled = c.in_ok-settled.settled.items in
    let recorded = recorded_in c.args.left.items in
    let all : AreSettled 0 (lists_of order) recorded settled = subst (λ ls. AreSettled 0 ls recorded settled) lists c.in_ok-settled.ensures in
    as_recorded 0 (lists_of order) recorded c.in-Ok.lanes.items (subst (λ rs. AreSettled 0 (lists_of order) recorded rs) c.in-Ok.ensures.all all)

pub returns-in-Ok-clause-ended : goal.returns-in-Ok-clause-ended
returns-in-Ok-clause-ended g c =
    let order = c.args.passes.now in
    let lists : c.as_slice.result.now ≡ lists_of order = c.as_slice.ensures.value ∙ c.in_ok-lists.ensures in
    let settled = c.in_ok-settled.settled.items in
    let recorded = recorded_in c.args.left.items in
    let all : AreSettled 0 (lists_of order) recorded settled = subst (λ ls. AreSettled 0 ls recorded settled) lists c.in_ok-settled.ensures in
    all_ended 0 (lists_of order) recorded c.in-Ok.lanes.items (subst (λ rs. AreSettled 0 (lists_of order) recorded rs) c.in-Ok.ensures.all all)

pub returns-clause-refused : goal.returns-clause-refused
returns-clause-refused g c =
    let order = c.args.passes.now in
    let lists : c.as_slice.result.now ≡ lists_of order = c.as_slice.ensures.value ∙ c.in_ok-lists.ensures in
    let settled = c.in_ok-settled.settled.items in
    let recorded = recorded_in c.args.left.items in
    let all : AreSettled 0 (lists_of order) recorded settled = subst (λ ls. AreSettled 0 ls recorded settled) lists c.in_ok-settled.ensures in
    not_ended order recorded settled c.in-Err.fault all c.in-Err.ensures.refused
