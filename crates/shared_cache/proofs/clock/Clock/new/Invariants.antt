use Rattle.std.proofs.Common.{◌≡◌, ◌+◌, length, All, []}
use Rattle.shared_cache.specs.Stamps.{new_sight}
use Rattle.shared_cache.specs.Word.{view}
use Rattle.shared_cache.proofs.clock.Clock.new.Given as goal

abbrev pub invariant-loop : goal.invariant-loop
invariant-loop l = record {
  made : length l.all.items + 1 ≡ l.counter;
  each : All (λ s. s ≡ new_sight l.table.shared.table_id) l.all.items;
  one : l.table.shared.table_id.words ≡ 1;
  of : l.seat.table_id ≡ l.table.shared.table_id;
  none : l.seat.me ≡ (view 0 0 0, []);
}
