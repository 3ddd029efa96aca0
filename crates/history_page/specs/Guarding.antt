-- Text inside of a page that no tag can begin in.
use Rattle.std.specs.Prelude.{ℕ, ◌≢◌, ◌==◌, All, List, [], ◌∷◌, if◌then◌else◌, codes}
use Rattle.std.specs.List.{flat_map}

-- a byte of it: the sign that begins a tag is written by its code, as words write bytes, and each other one as it is
abbrev pub guarded : ℕ → List ℕ
guarded byte = if byte == 60 then codes "%3C" else byte ∷ []

-- a text of it
abbrev pub guard : List ℕ → List ℕ
guard text = flat_map guarded text

-- no text of it has the sign that begins a tag: so nothing in it ends what it stands in, or begins something else
abbrev pub NoTagBegins : Type 0
NoTagBegins = (text : List ℕ) → All (λ byte. byte ≢ 60) (guard text)
