-- Which of some indexes satisfy a condition.
use Rattle.std.specs.Prelude.{◌≡◌, ◌≢◌, ℕ, ◌⊎◌}
use Rattle.certificate_finder.specs.declared.readable.Readable.{Readable}
use Rattle.certificate_finder.specs.declared.readable.Readable.TheVariants.{Nothing, One, Several}
use Rattle.certificate_finder.specs.Reads.{HoldsTwice}

-- no index satisfies the condition, this one alone does, or several do
abbrev pub Says : (ℕ → Type 0) → Readable → Type 0
Says P Nothing = (index : ℕ) → ¬ P index
Says P (One index) = P index × ((other : ℕ) → P other → other ≡ index)
Says P Several = HoldsTwice P

-- what two readings of indexes say of all of them
abbrev pub IsJoined : Readable → Readable → Readable → Type 0
IsJoined Nothing other joined = joined ≡ other
IsJoined (One one) Nothing joined = joined ≡ One one
IsJoined (One one) (One other) joined = ((one ≡ other) × (joined ≡ One one)) ⊎ ((one ≢ other) × (joined ≡ Several))
IsJoined (One one) Several joined = joined ≡ Several
IsJoined Several other joined = joined ≡ Several
