-- A bucket of pages that fills as time goes by.
use Rattle.std.specs.Prelude.{ℕ, ◌+◌, ◌*◌, ◌-◌, ◌≤◌, Bool, ◌&&◌, nat_le, nat_lt, min, max, if◌then◌else◌}
use Rattle.write_budget.specs.declared.limits.TheConstants.{MILLISECONDS_A_DAY, MILLISECONDS_OF_ROOM, MAX_PAGES_A_DAY}

-- the pages a day, the latest moment that was told, and the credit: each millisecond gives as much as there are pages a day
pub record Bucket : Type 0 where
  pub pages : ℕ
  pub latest : ℕ
  pub credit : ℕ

-- what a page takes
abbrev pub price : ℕ
price = MILLISECONDS_A_DAY

-- the most credit: that of a minute, or of one page
abbrev pub room_of : ℕ → ℕ
room_of pages = max price (MILLISECONDS_OF_ROOM * pages)

-- the pages are within their limit, and the credit within its room
pub record IsBucket (pages credit : ℕ) : Type 0 where
  pub few : pages ≤ MAX_PAGES_A_DAY
  pub within : credit ≤ room_of pages

-- nothing is saved up at this moment
abbrev pub new_bucket : ℕ → ℕ → Bucket
new_bucket pages now = record { pages = pages; latest = now; credit = 0 }

-- the credit at a moment that is not before the latest one
abbrev pub filled : Bucket → ℕ → ℕ
filled b now = min (room_of b.pages) (b.credit + b.pages * (now - b.latest))

-- a page is granted at a moment that is not before the latest one, if there is credit for it
abbrev pub is_granted : Bucket → ℕ → Bool
is_granted b now = nat_le b.latest now && nat_le price (filled b now)

-- the bucket once a page was asked for at a moment: the same if that is before the latest one
abbrev pub after_asking : Bucket → ℕ → Bucket
after_asking b now =
    if nat_lt now b.latest then b
    else record { pages = b.pages; latest = now; credit = if is_granted b now then filled b now - price else filled b now }
