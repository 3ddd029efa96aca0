-- A call that is made, from its start to its end.
use Rattle.std.proofs.Common.{◌≡◌, ℕ, ◌<◌, ◌≤◌, ◌+◌, ◌^◌, [], ◌∷◌, ◌++◌, ◌∙◌, ◌≢◌, ap, refl, arith}
use Rattle.record_pages.specs.declared.layout.Layout.{Layout}
use Rattle.history_recorder.specs.declared.operation.Operation.{Operation}
use Rattle.history_recorder.specs.Operations.{key_of, lane_of_key}
use Rattle.shared_cache.specs.declared.response.Response.{Response}
use Rattle.shared_cache.specs.Acts.{listing}
use Rattle.shared_cache.specs.Passes.{Ticket, with_end}
use Rattle.shared_cache.specs.declared.act_fault.ActFault.{ActFault}
use Rattle.shared_cache.specs.declared.act_fault.ActFault.TheVariants as acts
use Rattle.shared_cache.specs.declared.call_fault.CallFault.TheVariants as calls
use Rattle.shared_cache.specs.Caches.{IsMade, fault_in}
use Rattle.shared_cache.proofs.Passing.{with_end_snoc}

pub made_call : (layout : Layout) (op : Operation) (old started acted ended : Ticket) (outcome : Response) (lane position start point : ℕ)
    → ended.calls ≡ with_end ended.sight.seen acted.calls
    → acted.calls ≡ started.calls ++ listing lane position started.caller start point point op outcome ∷ []
    → started.calls ≡ old.calls → started.caller ≡ old.caller → lane ≡ lane_of_key layout (key_of op)
    → old.sight.seen < start → started.sight.seen ≡ start → started.sight.seen < point → acted.sight.seen ≡ point
    → acted.sight.seen ≤ ended.sight.seen → (¬ (ended.sight.seen + 1 ≡ 2 ^ 63) → acted.sight.seen < ended.sight.seen)
    → IsMade layout op old outcome ended
made_call layout op old started acted ended outcome lane position start point last more calls caller home later is above at grows unless = record {
  position = position;
  start = start;
  point = point;
  listed = last ∙ (ap (with_end ended.sight.seen) more ∙ (with_end_snoc ended.sight.seen started.calls (listing lane position started.caller start point point op outcome) ∙ rw (calls, caller, home)));
  started = later;
  acted = omega arith;
  ended = record { from_point = omega arith; above = λ more_left. let h = unless more_left in omega arith };
}

-- the clock is full for a call if it is for its act
pub clock_full : (lane : ℕ) (fault : ActFault) → fault_in lane fault ≡ calls.ClockFull → fault ≡ acts.ClockFull
clock_full lane (acts.HistoryLost position found) is = absurd cc
clock_full lane acts.HistoryFull is = absurd cc
clock_full lane acts.ClockFull is = refl
clock_full lane acts.OutOfMemory is = absurd cc

-- no act is too large
pub not_large : (lane : ℕ) (fault : ActFault) → fault_in lane fault ≢ calls.TooLarge
not_large lane (acts.HistoryLost position found) is = absurd cc
not_large lane acts.HistoryFull is = absurd cc
not_large lane acts.ClockFull is = absurd cc
not_large lane acts.OutOfMemory is = absurd cc
