-- The numbers of a load: the name of each, the word for it if none is given, and its range.
use Rattle.std.specs.Prelude.{◌≡◌, ℕ, Bool, true, ◌&&◌, List, [], ◌∷◌, length, Option, Some, None, codes, nat_le, nat_lt, ◌<◌, ◌^◌, ◌*◌, ◌-◌, ◌==◌, take, slice_index, slice_index_or, if◌then◌else◌}
use Rattle.std.specs.Char.{digit_value}
use Rattle.std.specs.List.{list_all}
use Rattle.std.specs.Str.Parse.{digits_value, without_leading_plus}
use Rattle.record_pages.specs.Ranges.{Range, range, range_of, is_in}
use Rattle.record_pages.specs.declared.field.Field.TheVariants as fields
use Rattle.load.specs.declared.setting.Setting.{Setting}
use Rattle.load.specs.declared.setting.Setting.TheVariants.{Lanes, Sets, Memory, Segments, SegmentPages, Entries, Threshold, Admit, Callers, Operations, Keys, ValueBytes, Gets, Removes, Workers, Seed, Ttl, Shards, Leases, BringBack, ServedOperations, ServedKeys, ServedValueBytes, ServedTtl, Seconds}

-- a row of the table
pub record Row : Type 0 where
  pub name : List ℕ
  pub default : List ℕ
  pub range : Range

abbrev pub row : List ℕ → List ℕ → Range → Row
row name default range = record { name = name; default = default; range = range }

-- the table: the range of a number that a configuration has is that of its field
abbrev pub row_of : Setting → Row
row_of Lanes = row (codes "lanes") (codes "4") (range_of fields.Lanes)
row_of Sets = row (codes "sets") (codes "64") (range_of fields.Sets)
row_of Memory = row (codes "memory") (codes "64") (range_of fields.Memory)
row_of Segments = row (codes "segments") (codes "8") (range_of fields.Segments)
row_of SegmentPages = row (codes "segment-pages") (codes "4") (range_of fields.SegmentPages)
row_of Entries = row (codes "entries") (codes "4096") (range_of fields.Entries)
row_of Threshold = row (codes "threshold") (codes "2") (range_of fields.Threshold)
row_of Admit = row (codes "admit") (codes "65536") (range_of fields.Admit)
row_of Callers = row (codes "callers") (codes "4") (range 1 64)
row_of Operations = row (codes "operations") (codes "10000") (range 1 1000000)
row_of Keys = row (codes "keys") (codes "1000") (range 1 1000000)
row_of ValueBytes = row (codes "value-bytes") (codes "100") (range 0 2048)
row_of Gets = row (codes "gets") (codes "70") (range 0 100)
row_of Removes = row (codes "removes") (codes "5") (range 0 100)
row_of Workers = row (codes "workers") (codes "2") (range 1 16)
row_of Seed = row (codes "seed") (codes "1") (range 0 4294967295)
row_of Ttl = row (codes "ttl") (codes "0") (range 0 1000000)
row_of Shards = row (codes "shards") (codes "1") (range 1 1024)
row_of Leases = row (codes "leases") (codes "0") (range 0 1048576)
row_of BringBack = row (codes "bring-back") (codes "0") (range 0 1000000)
row_of ServedOperations = row (codes "operations") (codes "1000000") (range 1 1000000000)
row_of ServedKeys = row (codes "keys") (codes "1000") (range 1 100000000)
row_of ServedValueBytes = row (codes "value-bytes") (codes "100") (range 8 2048)
row_of ServedTtl = row (codes "ttl") (codes "0") (range 0 1000000000)
row_of Seconds = row (codes "seconds") (codes "0") (range 0 2147483648)

-- the number is in the setting's range
abbrev pub is_admitted : Setting → ℕ → Bool
is_admitted setting number = is_in (row_of setting).range number

-- the text has a digit or more, and nothing else but a plus sign that may stand before them
abbrev pub is_decimal : List ℕ → Bool
is_decimal text = nat_lt 0 (length (without_leading_plus text)) && list_all (λ c. nat_lt (digit_value c) 10) (without_leading_plus text)

-- the number that a text writes
abbrev pub value_of_text : List ℕ → ℕ
value_of_text text = digits_value 10 (without_leading_plus text)

-- the number that a text gives the setting, if it writes one in the setting's range
abbrev pub number_in : Setting → List ℕ → Option ℕ
number_in setting text = if is_decimal text && is_admitted setting (value_of_text text) then Some (value_of_text text) else None

-- the settings of a run in their order
abbrev pub settings : List Setting
settings = Lanes ∷ Sets ∷ Memory ∷ Segments ∷ SegmentPages ∷ Entries ∷ Threshold ∷ Admit ∷ Callers ∷ Operations ∷ Keys ∷ ValueBytes ∷ Gets ∷ Removes ∷ Workers ∷ Seed ∷ Ttl ∷ []

-- the settings of a load of a cache that serves
abbrev pub served_settings : List Setting
served_settings = Lanes ∷ Sets ∷ Memory ∷ Segments ∷ SegmentPages ∷ Entries ∷ Threshold ∷ Admit ∷ Callers ∷ ServedOperations ∷ ServedKeys ∷ ServedValueBytes ∷ Gets ∷ Removes ∷ Workers ∷ Seed ∷ ServedTtl ∷ Shards ∷ Leases ∷ BringBack ∷ Seconds ∷ []

-- the settings of the cache itself, which come first in both
abbrev pub layout_settings : List Setting
layout_settings = Lanes ∷ Sets ∷ Memory ∷ Segments ∷ SegmentPages ∷ Entries ∷ Threshold ∷ Admit ∷ []

-- the settings that the size of a cache determines
abbrev pub shape_settings : List Setting
shape_settings = Lanes ∷ Sets ∷ Memory ∷ Segments ∷ SegmentPages ∷ Entries ∷ Shards ∷ []

-- each of the numbers is in the range of the setting at its place
abbrev pub AreAdmitted : List Setting → List ℕ → Type 0
AreAdmitted settings numbers = (place : ℕ) → place < length settings → is_admitted (slice_index_or settings place Lanes) (slice_index numbers place) ≡ true

-- the most bytes that a size may be
abbrev pub most_bytes : ℕ
most_bytes = 2 ^ 50

-- how many bytes a last letter counts for each one before it: K, M and G are units, of 2^10, 2^20 and 2^30 bytes
abbrev pub unit_of : ℕ → ℕ
unit_of letter = if letter == 75 then 2 ^ 10 else (if letter == 77 then 2 ^ 20 else (if letter == 71 then 2 ^ 30 else 1))

-- how many bytes each one that a text writes counts for: those of the unit at its end, or one if it has none
abbrev pub unit_in : List ℕ → ℕ
unit_in text = unit_of (slice_index text (length text - 1))

-- a text without the unit at its end, if it has one
abbrev pub without_unit : List ℕ → List ℕ
without_unit text = if unit_in text == 1 then text else take (length text - 1) text

-- the bytes that a text gives a size, if it writes a number of them that a size may be, with a unit or without
abbrev pub bytes_in : List ℕ → Option ℕ
bytes_in text =
    if is_decimal (without_unit text) && nat_le (value_of_text (without_unit text) * unit_in text) most_bytes
    then Some (value_of_text (without_unit text) * unit_in text)
    else None
