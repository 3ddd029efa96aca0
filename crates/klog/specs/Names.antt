-- The numbers of segments, their names in places, and where their pages lie.
use Rattle.std.specs.Prelude.{ℕ, ◌+◌, ◌-◌, ◌*◌, ◌%◌, ◌≤◌, if◌then◌else◌}
use Rattle.klog_index.specs.declared.entry.Entry.{Entry}
use Rattle.klog.specs.Log.{LogState}

-- how many names there are: one for each segment that is held
abbrev pub names : LogState → ℕ
names k = k.shape.segments + 2

-- the name of a segment
abbrev pub name_of : LogState → ℕ → ℕ
name_of k number = number % names k

-- the number of a segment by its name: of the numbers from the oldest segment's on, the first that has it
abbrev pub number_of : LogState → ℕ → ℕ
number_of k name = k.first + (name + (names k - k.first % names k)) % names k

-- the number of the segment of an entry
abbrev pub segment_of : LogState → Entry → ℕ
segment_of k e = number_of k e.place.segment

-- the number of the segment that is flushed, if there is one
abbrev pub flushed_number : LogState → ℕ
flushed_number k = k.first + k.stored

-- the number of the segment that is filled
abbrev pub filled_number : LogState → ℕ
filled_number k = if k.is_flushing then flushed_number k + 1 else flushed_number k

-- the page of the log where a page of a segment lies
abbrev pub ring_page : LogState → ℕ → ℕ → ℕ
ring_page k segment page = segment % k.shape.segments * k.shape.segment_pages + page

-- the page of the device where it lies: the log's pages stand after those of the sets
abbrev pub device_page : LogState → ℕ → ℕ → ℕ
device_page k segment page = k.shape.sets + ring_page k segment page

-- a device with this many pages has the log's
abbrev pub HasRoom : ℕ → LogState → Type 0
HasRoom count k = k.shape.sets + k.shape.segments * k.shape.segment_pages ≤ count
