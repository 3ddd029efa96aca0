-- The input that a request names.
use Rattle.std.specs.Prelude.{◌≡◌, ℕ, List, codes}

-- a file name that means the standard input
abbrev pub IsStandardInput : List ℕ → Type 0
IsStandardInput file = file ≡ codes "-"
