use Rattle.std.proofs.Common.{◌≡◌, ℕ, ◌<◌, ◌+◌, length, slice_index_or, All}
use Rattle.shared_cache.specs.Stamps.{new_sight}
use Rattle.shared_cache.specs.Passes.{Ticket, new_ticket}
use Rattle.shared_cache.proofs.opening.passes_of.Given as goal

abbrev pub invariant-loop-seat : goal.invariant-loop-seat
invariant-loop-seat l = record {
  left : length l.seats.items + length l.passes.items ≡ l.callers;
  new : All (λ s. s ≡ new_sight l.clock) l.seats.items;
  passes : (k : ℕ) (d : Ticket) → k < length l.passes.items → slice_index_or l.passes.items k d ≡ new_ticket k (new_sight l.clock);
}

abbrev pub decreases-loop-seat : goal.decreases-loop-seat
decreases-loop-seat l = length l.seats.items
