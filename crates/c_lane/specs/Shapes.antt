-- Shapes and sizes as C has them.
use Rattle.std.specs.Prelude.{◌≡◌, ℕ, ◌≤◌, List, [], ◌∷◌, Option, Some, None, option_map, find, Bool, true, false, not, ◌==◌, if◌then◌else◌}
use Rattle.record_pages.specs.Asked.{HasNumbersOf}
use Rattle.record_pages.specs.Ranges.{Range, range, range_of, is_in}
use Rattle.record_pages.specs.declared.config.Config.{Config}
use Rattle.record_pages.specs.declared.field.Field.{Field}
use Rattle.record_pages.specs.declared.field.Field.TheVariants.{Lanes, Sets, Memory, Segments, SegmentPages, Entries, Threshold, Admit}
use Rattle.record_pages.specs.declared.layout.Layout.{Layout}
use Rattle.cache_sizes.specs.declared.limits.TheConstants.{MAX_SHARDS, MAX_LEASE_SLOTS}
use Rattle.cache_sizes.specs.declared.shape.Shape.{Shape}
use Rattle.cache_sizes.specs.declared.wanted.Wanted.{Wanted}
use Rattle.cache_sizes.specs.declared.size_fault.SizeFault.{SizeFault}
use Rattle.cache_sizes.specs.declared.size_fault.SizeFault.TheVariants as faults
use Rattle.cache_sizes.specs.Memory.{lease_slots_of}
use Rattle.cache_sizes.specs.Records.{threshold_of}
use Rattle.cache_sizes.specs.Shapes.{IsShapeFor, flash_bytes_of, file_pages_of, fixed_bytes_of, memory_bytes_of, objects_in_memory_of, objects_in_logs_of, objects_in_sets_of}
use Rattle.c_lane.specs.declared.lane_shape.LaneShape.{LaneShape}
use Rattle.c_lane.specs.declared.shape_field.ShapeField.{ShapeField}
use Rattle.c_lane.specs.declared.shape_field.ShapeField.TheVariants as fields
use Rattle.c_lane.specs.declared.sizes.Sizes.{Sizes}
use Rattle.c_lane.specs.declared.wanted.WantedSizes.{WantedSizes}

-- a row: a field, its number, and the range of that
pub record Row : Type 0 where
  pub field : ShapeField
  pub number : ℕ
  pub range : Range

abbrev pub row : ShapeField → ℕ → Range → Row
row field number range = record { field = field; number = number; range = range }

-- the row of a field that a configuration has too
abbrev pub config_row : Field → ℕ → Row
config_row field number = row (fields.Config field) number (range_of field)

-- the table of the fields, in their order
abbrev pub table : LaneShape → List Row
table s =
    row fields.Shards s.shards (range 1 MAX_SHARDS)
    ∷ config_row Lanes s.lanes
    ∷ config_row Sets s.sets
    ∷ config_row Memory s.memory
    ∷ config_row Segments s.segments
    ∷ config_row SegmentPages s.segment_pages
    ∷ config_row Entries s.entries
    ∷ row fields.LeaseSlots s.lease_slots (range 1 MAX_LEASE_SLOTS)
    ∷ config_row Threshold s.threshold
    ∷ config_row Admit s.admit
    ∷ []

-- a number out of its range
abbrev pub is_faulty : Row → Bool
is_faulty r = not (is_in r.range r.number)

-- the first faulty field of the table, if there is one
abbrev pub first_faulty_field : LaneShape → Option ShapeField
first_faulty_field s = option_map (λ r. r.field) (find is_faulty (table s))

-- a field's number in the table, from 1
abbrev pub number_of_field : ShapeField → ℕ
number_of_field fields.Shards = 1
number_of_field (fields.Config Lanes) = 2
number_of_field (fields.Config Sets) = 3
number_of_field (fields.Config Memory) = 4
number_of_field (fields.Config Segments) = 5
number_of_field (fields.Config SegmentPages) = 6
number_of_field (fields.Config Entries) = 7
number_of_field fields.LeaseSlots = 8
number_of_field (fields.Config Threshold) = 9
number_of_field (fields.Config Admit) = 10

-- a configuration's field that stands before the slots for leases
abbrev pub is_before_slots : Field → Bool
is_before_slots Lanes = true
is_before_slots Sets = true
is_before_slots Memory = true
is_before_slots Segments = true
is_before_slots SegmentPages = true
is_before_slots Entries = true
is_before_slots Threshold = false
is_before_slots Admit = false

-- the configuration of each shard of a shape
abbrev pub config_of : LaneShape → Config
config_of s = record {
  lanes = s.lanes;
  sets = s.sets;
  memory = s.memory;
  segments = s.segments;
  segment_pages = s.segment_pages;
  entries = s.entries;
  threshold = s.threshold;
  admit = s.admit;
}

-- no number of the shape is out of its range, and the layout has those of a configuration
pub record IsLayoutOf (s : LaneShape) (layout : Layout) : Type 0 where
  pub faultless : first_faulty_field s ≡ None
  pub numbers : HasNumbersOf layout (config_of s)
  pub least_shards : 1 ≤ s.shards
  pub most_shards : s.shards ≤ MAX_SHARDS
  pub least_slots : 1 ≤ s.lease_slots
  pub most_slots : s.lease_slots ≤ MAX_LEASE_SLOTS

-- the number, or another one if it is 0
abbrev pub or_else : ℕ → ℕ → ℕ
or_else number other = if number == 0 then other else number

-- the shape with slots for leases and with a threshold: if it has none, as many slots as sizes would give a lane of its sets, and
-- the threshold for objects of this many bytes
abbrev pub completed : ℕ → LaneShape → LaneShape
completed object_bytes s = record s { lease_slots = or_else s.lease_slots (lease_slots_of s.sets); threshold = or_else s.threshold (threshold_of object_bytes) }

-- the shape has the parts that C's has
pub record HasPartsOf (shape : Shape) (s : LaneShape) : Type 0 where
  pub shards : shape.shards ≡ s.shards
  pub lanes : shape.lanes ≡ s.lanes
  pub sets : shape.sets ≡ s.sets
  pub segments : shape.segments ≡ s.segments
  pub segment_pages : shape.segment_pages ≡ s.segment_pages
  pub entries : shape.entries ≡ s.entries
  pub memory : shape.memory ≡ s.memory
  pub lease_slots : shape.lease_slots ≡ s.lease_slots

-- what is wanted, as sizes are worked out of it
abbrev pub wanted_of : WantedSizes → Wanted
wanted_of w = record { flash_bytes = w.flash_bytes; memory_bytes = w.memory_bytes; object_bytes = w.object_bytes; threads = w.threads }

-- the shape of these parts, whose other numbers are those that stood there
abbrev pub shape_with : Shape → LaneShape → LaneShape
shape_with shape old = record old {
  shards = shape.shards;
  lanes = shape.lanes;
  sets = shape.sets;
  memory = shape.memory;
  segments = shape.segments;
  segment_pages = shape.segment_pages;
  entries = shape.entries;
  lease_slots = shape.lease_slots;
}

-- the shape for what is wanted was written where another one stood
pub record IsWrittenFor (wanted : Wanted) (old new : LaneShape) : Type 0 where
  pub shape : Shape
  pub is : IsShapeFor wanted shape
  pub written : new ≡ shape_with shape old

-- the number of a fault of sizes, in their order, from 1
abbrev pub number_of_size_fault : SizeFault → ℕ
number_of_size_fault faults.FlashTooSmall = 1
number_of_size_fault faults.FlashTooLarge = 2
number_of_size_fault faults.NoObjectBytes = 3
number_of_size_fault faults.ObjectTooLarge = 4
number_of_size_fault faults.NoThreads = 5
number_of_size_fault faults.TooManyThreads = 6
number_of_size_fault faults.MemoryTooSmall = 7

-- what a cache of a shape takes and holds
abbrev pub sizes_for : Shape → ℕ → Sizes
sizes_for shape object_bytes = record {
  file_bytes = flash_bytes_of shape;
  lane_pages = file_pages_of shape;
  memory_fixed = fixed_bytes_of shape;
  memory_full = memory_bytes_of shape object_bytes;
  memory_objects = objects_in_memory_of shape;
  log_objects = objects_in_logs_of shape object_bytes;
  set_objects = objects_in_sets_of shape object_bytes;
}

-- all zeros
abbrev pub no_sizes : Sizes
no_sizes = record { file_bytes = 0; lane_pages = 0; memory_fixed = 0; memory_full = 0; memory_objects = 0; log_objects = 0; set_objects = 0 }

-- these are the sizes of a shape with these parts
pub record SizesOfParts (s : LaneShape) (object_bytes : ℕ) (sizes : Sizes) : Type 0 where
  pub shape : Shape
  pub parts : HasPartsOf shape s
  pub are : sizes ≡ sizes_for shape object_bytes

-- the sizes when this is the first faulty field, if there is one
abbrev pub SizesBy : Option ShapeField → LaneShape → ℕ → Sizes → Type 0
SizesBy None s object_bytes sizes = SizesOfParts s object_bytes sizes
SizesBy (Some field) s object_bytes sizes = sizes ≡ no_sizes

-- the sizes of a shape: zeros if a number of it is out of its range
abbrev pub SizesOf : LaneShape → ℕ → Sizes → Type 0
SizesOf s object_bytes sizes = SizesBy (first_faulty_field s) s object_bytes sizes
