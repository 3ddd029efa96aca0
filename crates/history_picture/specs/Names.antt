-- The callers' names.
use Rattle.std.specs.Prelude.{ℕ, List, Vec, map}
use Rattle.std.specs.declared.alloc.Global.{Global}

-- the names, as lists of bytes
abbrev pub names_of : List (Vec ℕ Global) → List (List ℕ)
names_of names = map (λ name. name.items) names
