-- What is granted over time.
use Rattle.std.specs.Prelude.{◌≡◌, ℕ, ◌+◌, ◌*◌, ◌-◌, ◌<◌, ◌≤◌, Bool, false, ◌&&◌, List, [], ◌∷◌, nat_le, IsTrue, if◌then◌else◌}
use Rattle.write_budget.specs.Bucket.{Bucket, price, room_of, is_granted, after_asking}

-- a moment is one of these, the first and the last included
abbrev pub is_between : ℕ → ℕ → ℕ → Bool
is_between first last now = nat_le first now && nat_le now last

-- how many pages are granted between two moments, if pages are asked for at all these
abbrev pub granted_between : ℕ → ℕ → Bucket → List ℕ → ℕ
granted_between first last b [] = 0
granted_between first last b (now ∷ nows) =
    (if is_between first last now && is_granted b now then 1 else 0) + granted_between first last (after_asking b now) nows

-- Between two moments no more pages are granted than those of the time between them and of the room, whatever moments are told in
-- whatever order.
abbrev pub IsWithinBudget : Type 0
IsWithinBudget =
    (b : Bucket) (nows : List ℕ) (first last : ℕ) → b.credit ≤ room_of b.pages → first ≤ last →
    granted_between first last b nows * price ≤ b.pages * (last - first) + room_of b.pages

-- a moment before the latest one gets no page, and changes nothing
abbrev pub BackIsNothing : Type 0
BackIsNothing = (b : Bucket) (now : ℕ) → now < b.latest → (is_granted b now ≡ false) × (after_asking b now ≡ b)

-- a page is granted once time gave the credit for it
abbrev pub SavedIsGranted : Type 0
SavedIsGranted = (b : Bucket) (now : ℕ) → b.latest ≤ now → price ≤ b.credit + b.pages * (now - b.latest) → IsTrue (is_granted b now)
