-- What is seen of the keys that were met.
use Rattle.std.specs.Prelude.{◌≡◌, ℕ, ◌+◌, ◌≤◌, List, [], ◌∷◌, true, if◌then◌else◌}
use Rattle.sight_sketch.specs.Sketch.{Sights, is_seen, changes, noted}

-- the sights once all these keys were met, one after the other
abbrev pub all_noted : Sights → List ℕ → Sights
all_noted s [] = s
all_noted s (hash ∷ hashes) = all_noted (noted s hash) hashes

-- how often the sets change meanwhile
abbrev pub change_count : Sights → List ℕ → ℕ
change_count s [] = 0
change_count s (hash ∷ hashes) = (if changes s hash then 1 else 0) + change_count (noted s hash) hashes

-- a key that was met is seen until the sets have changed twice, that meeting included
abbrev pub MetIsSeen : Type 0
MetIsSeen = (s : Sights) (hash : ℕ) (hashes : List ℕ) → change_count s (hash ∷ hashes) ≤ 1 → is_seen (all_noted s (hash ∷ hashes)) hash ≡ true
