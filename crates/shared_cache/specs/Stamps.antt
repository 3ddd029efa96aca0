-- A seat of a clock, as contracts see it.
use Rattle.std.specs.Prelude.{◌≡◌, ℕ, ◌<◌, ◌≤◌, ◌^◌, []}
use Rattle.atomic_table.specs.Table.{Me}
use Rattle.atomic_table.specs.Seated.{TableId}
use Rattle.shared_cache.specs.declared.clock_rule.View.{View}

-- which clock it is
abbrev pub ClockId : Type 0
ClockId = TableId

-- a seat: its clock, the greatest stamp that it has seen, what its last load found, and the greatest number to which it raised the word
pub record Sight : Type 0 where
  pub clock : ClockId
  pub seen : ℕ
  pub loaded : ℕ
  pub raised : ℕ

-- a seat that has made no step
abbrev pub new_sight : ClockId → Sight
new_sight clock = record { clock = clock; seen = 0; loaded = 0; raised = 0 }

-- what is true of every seat: it has seen what its view knows, and no stamp past the last
pub record IsSeat (me : Me (Unit {0}) View) (seen : ℕ) : Type 0 where
  pub none_held : me.1 ≡ []
  pub sees : me.0.seen ≤ seen
  pub raises : me.0.raised ≤ seen
  pub within : seen < 2 ^ 63
