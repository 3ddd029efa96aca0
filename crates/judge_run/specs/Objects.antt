-- A member of a JSON object that lists objects.
use Rattle.std.specs.Prelude.{ℕ, List, [], ◌∷◌, ◌++◌, codes}
use Rattle.std.specs.List.{flat_map}
use Rattle.figures.specs.declared.form.Form.TheVariants.{Json}
use Rattle.figures.specs.Figures.{Row, mark_after, with_rows}

-- the object of some rows
abbrev pub object_of : List Row → List ℕ
object_of rows = with_rows Json [] rows ++ codes "}"

-- objects, each after a comma
abbrev pub after_commas : List (List ℕ) → List ℕ
after_commas objects = flat_map (λ object. codes "," ++ object) objects

-- objects, with a comma between them
abbrev pub objects_of : List (List ℕ) → List ℕ
objects_of [] = []
objects_of (object ∷ others) = object ++ after_commas others

-- what was written of an object, and one member more, of this name, which lists these objects
abbrev pub with_objects : List ℕ → List ℕ → List (List ℕ) → List ℕ
with_objects text name objects =
    text ++ (mark_after text ++ (name ++ (codes "\":[" ++ (objects_of objects ++ codes "]"))))
