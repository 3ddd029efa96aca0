-- The part that a lane has in a list of writes.
use Rattle.std.specs.Prelude.{ℕ, ◌==◌, Bool, List, filter}
use Rattle.certificate_checker.specs.Deeds.{Deed}

-- whether a deed is of this lane, if keys have these
abbrev pub is_in_lane : (List ℕ → ℕ) → ℕ → Deed → Bool
is_in_lane lane_of number deed = lane_of deed.key == number

-- the deeds of a lane, in their order
abbrev pub part_of : (List ℕ → ℕ) → ℕ → List Deed → List Deed
part_of lane_of number deeds = filter (is_in_lane lane_of number) deeds
