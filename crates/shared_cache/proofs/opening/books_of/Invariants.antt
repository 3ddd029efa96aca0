use Rattle.std.proofs.Common.{◌≡◌, ◌+◌, ◌≤◌, length}
use Rattle.std.specs.Prelude.{All}
use Rattle.record_pages.specs.Asked.{layout_pages}
use Rattle.shared_cache.proofs.opening.books_of.Given as goal

abbrev pub invariant-loop-device : goal.invariant-loop-device
invariant-loop-device g l = record {
  left : length l.devices.items + length l.books.items ≡ l.layout.lanes;
  room : All (λ d. layout_pages l.layout ≤ g.D.PageDevice.page_count d) l.devices.items;
}

abbrev pub decreases-loop-device : goal.decreases-loop-device
decreases-loop-device g l = length l.devices.items
