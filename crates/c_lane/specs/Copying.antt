-- A copy of a value to the front of a buffer.
use Rattle.std.specs.Prelude.{ℕ, List, ◌++◌, length, drop, nat_le, if◌then◌else◌}
use Rattle.c_lane.specs.declared.status.Status.{Status}
use Rattle.c_lane.specs.declared.status.Status.TheVariants.{Done, ShortBuffer}

-- whether a value fits in a buffer decides the status
abbrev pub copy_status : List ℕ → List ℕ → Status
copy_status value buffer = if nat_le (length value) (length buffer) then Done else ShortBuffer

-- a buffer with a value at its front, if it fits; otherwise as it was
abbrev pub copied_into : List ℕ → List ℕ → List ℕ
copied_into value buffer = if nat_le (length value) (length buffer) then value ++ drop (length value) buffer else buffer
