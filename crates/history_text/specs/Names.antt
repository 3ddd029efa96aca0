-- Names, by their bytes.
use Rattle.std.specs.Prelude.{ℕ, List, map}
use Rattle.std.specs.declared.vec.Vec.{Vec}

-- names, by their bytes
abbrev pub names_of : {A : Type 0} → List (Vec ℕ A) → List (List ℕ)
names_of names = map (λ name. name.items) names
