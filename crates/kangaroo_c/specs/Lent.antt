-- What the maker of a device of pages lends.
use Rattle.std.specs.Prelude.{ℕ, ◌*◌, ◌^◌, List}
use Rattle.std.specs.Borrow.{full_share}
use Rattle.std.specs.Mem.{type_size}
use Rattle.std.specs.Ptr.{lies_at}
use base.Fml.{Fml, fsep, flt}
use denote.Array.{Array}
use denote.RattleType.{RattleType}
use denote.RawPtr.{Ptr}

-- this many values lie side by side from a pointer on, in fewer than 2^63 bytes, and nobody else may reach them
abbrev pub lent_values : (R : RattleType) → Ptr → ℕ → List R.Denot → Fml
lent_values R at count values = fsep (flt (count * type_size R) (2 ^ 63)) (lies_at (Array R count) full_share at values)
