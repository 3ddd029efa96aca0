-- What a record is, and which records fit together on a page of each kind.
use Rattle.std.specs.Prelude.{ℕ, ◌<◌, ◌≤◌, ◌^◌, List, length, sum_by, Bool, ◌&&◌, nat_le}
use Rattle.record_pages.specs.Bounded.{IsKey, IsValue}
use Rattle.record_pages.specs.Sizes.{object_size, room, max_set_records, max_log_records}
use Rattle.record_pages.specs.declared.record.Record.{Record}
use Rattle.record_pages.specs.declared.timed_value.TimedValue.{TimedValue}

-- a record, as all layers speak of it: its key as a list, its value with its expiry, its prediction as a number
abbrev pub Rec : Type 0
Rec = Record

-- the record with this key, value and prediction
abbrev pub rec : List ℕ → TimedValue → ℕ → Rec
rec key value pred = record { key = key; value = value; pred = pred }

-- what a record may be
pub record IsRecord (r : Rec) : Type 0 where
  pub key : IsKey r.key
  pub value : IsValue r.value.value
  pub expires : r.value.expires < 2 ^ 64
  pub pred : r.pred ≤ 7

-- how many bytes a record takes on a page
abbrev pub size : Rec → ℕ
size r = object_size r.key r.value.value

-- how many bytes records take together
abbrev pub sizes : List Rec → ℕ
sizes rs = sum_by size rs

-- whether records fit on a set page of this many bytes: within its room, and not too many
abbrev pub fit : ℕ → List Rec → Bool
fit page rs = nat_le (sizes rs) (room page) && nat_le (length rs) max_set_records

-- whether records fit on a log page of this many bytes: within its room, and not too many
abbrev pub fit_log : ℕ → List Rec → Bool
fit_log page rs = nat_le (sizes rs) (room page) && nat_le (length rs) max_log_records
