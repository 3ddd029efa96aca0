-- The part of a device that one of its users sees.
use Rattle.std.specs.Prelude.{ℕ, ◌+◌, List, Option, None, nat_lt, if◌then◌else◌}

-- the pages from a start on, numbered from 0
abbrev pub pages_from : ℕ → (ℕ → Option (List ℕ)) → ℕ → Option (List ℕ)
pages_from start held = λ page. held (start + page)

-- the pages before an end; nothing is known of others
abbrev pub pages_before : ℕ → (ℕ → Option (List ℕ)) → ℕ → Option (List ℕ)
pages_before end held = λ page. if nat_lt page end then held page else None
