-- The numbers that stand for faults of sizes and shapes.
use Rattle.std.specs.Prelude.{◌≡◌, ℕ, Option, Some, None}
use Rattle.cache_sizes.specs.Faults.{first_size_fault}
use Rattle.cache_sizes.specs.declared.size_fault.SizeFault.{SizeFault}
use Rattle.c_lane.specs.declared.lane_shape.LaneShape.{LaneShape}
use Rattle.c_lane.specs.declared.shape_field.ShapeField.{ShapeField}
use Rattle.c_lane.specs.declared.wanted.WantedSizes.{WantedSizes}
use Rattle.c_lane.specs.Shapes.{first_faulty_field, number_of_field, number_of_size_fault, wanted_of, IsWrittenFor}

-- the number of a field, or 0 for none
abbrev pub number_or_zero : Option ShapeField → ℕ
number_or_zero None = 0
number_or_zero (Some field) = number_of_field field

-- the number of the first field of a shape that is out of its range, or 0
abbrev pub number_of_faulty : LaneShape → ℕ
number_of_faulty shape = number_or_zero (first_faulty_field shape)

-- there is no shape for what is wanted: the number is that of the first fault, and nothing was written
pub record IsRefused (fault : SizeFault) (old : LaneShape) (number : ℕ) (new : LaneShape) : Type 0 where
  pub number_is : number ≡ number_of_size_fault fault
  pub stays : new ≡ old

-- what is written when this is the first fault, if there is one
abbrev pub IsWrittenBy : Option SizeFault → WantedSizes → LaneShape → ℕ → LaneShape → Type 0
IsWrittenBy None wanted old number new = (number ≡ 0) × IsWrittenFor (wanted_of wanted) old new
IsWrittenBy (Some fault) wanted old number new = IsRefused fault old number new

-- the shape for what is wanted is written, and the number is 0; or nothing is, and it is that of the first fault
abbrev pub ShapeIsWritten : WantedSizes → LaneShape → ℕ → LaneShape → Type 0
ShapeIsWritten wanted old number new = IsWrittenBy (first_size_fault (wanted_of wanted)) wanted old number new
