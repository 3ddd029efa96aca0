-- A new lane over each device that was taken, with its register.
use Rattle.std.proofs.Common.{◌≡◌, ◌≤◌, ◌+◌, ℕ, Some, All, length}
use Rattle.std.specs.Prelude.{IsTrue, slice_get}
use Rattle.record_pages.specs.Asked.{layout_pages}
use Rattle.service_cache.specs.Held.{IsNewSeated}
use Rattle.service_cache.proofs.opening.lanes_over.Given as goal

abbrev pub invariant-loop : goal.invariant-loop
invariant-loop g l = record {
  made : length l.lanes.items ≡ l.counter;
  new : All (IsNewSeated l.layout l.options l.seed) l.lanes.items;
  left : length l.devices.items + l.counter ≡ l.count;
  given : l.book ≡ l.counter;
  room : All (λ d. layout_pages l.layout ≤ g.D.PageDevice.page_count d) l.devices.items;
  said : (place : ℕ) (device : g.row.D.Denot) → slice_get l.devices.items place ≡ Some device → IsTrue (g.L.KeyLanes.is_honest (place + l.counter)) → IsTrue (g.D.PageDevice.honest device);
}
