-- The sizes of pages and objects.
use Rattle.std.specs.Prelude.{ℕ, ◌+◌, ◌-◌, ◌≤◌, List, length}

-- a page has 256 to 4,096 bytes
abbrev pub IsPageSize : ℕ → Type 0
IsPageSize page = (256 ≤ page) × (page ≤ 4096)

-- how many bytes the records of a page may take together
abbrev pub room : ℕ → ℕ
room page = page - 18

-- how many bytes an object takes on a page: two lengths, a prediction, an expiry, the key and the value
abbrev pub object_size : List ℕ → List ℕ → ℕ
object_size key value = 12 + length key + length value

-- how many records a set page may have: the hits of a set are the bits of one word of 128, one for each place of its page; so
-- many records lie on a page of 4,096 bytes if each takes at most 31 bytes, and the least takes 13
abbrev pub max_set_records : ℕ
max_set_records = 128

-- how many records a log page may have: an entry of the log's index has room for 64 places on a page, and a page in the making
-- notes where each of 64 records begins
abbrev pub max_log_records : ℕ
max_log_records = 64

-- how many records a set page may have that was written before there were so many: the hits of a set were the bits of one word
-- of 64
abbrev pub max_former_records : ℕ
max_former_records = 64

-- the prediction with which a record enters the log
abbrev pub entering_prediction : ℕ
entering_prediction = 6
