-- A deed that stands in a list.
use Rattle.std.specs.Prelude.{◌≡◌, List, ◌∷◌, ◌++◌}
use Rattle.certificate_checker.specs.Deeds.{Deed}

-- the deed is one of the list
pub record Stands (deed : Deed) (list : List Deed) : Type 0 where
  pub before : List Deed
  pub after : List Deed
  pub split : list ≡ before ++ deed ∷ after
