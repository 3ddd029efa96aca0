-- The calls that matter for a reason.
use Rattle.std.specs.Prelude.{ℕ, List, [], ◌∷◌, ◌++◌, take}
use Rattle.std.specs.List.{flat_map}
use Rattle.certificate_finder.specs.declared.excluded.Excluded.{Excluded}
use Rattle.certificate_finder.specs.declared.excluded.Excuse.{Excuse}
use Rattle.certificate_finder.specs.declared.excluded.Excuse.TheVariants.{Later, Expired, Replaced}
use Rattle.certificate_finder.specs.declared.faults.CrossedWrites.{CrossedWrites}
use Rattle.certificate_finder.specs.declared.witness.Side.{Side}
use Rattle.history_picture.specs.declared.latest.Latest.{Latest}
use Rattle.history_picture.specs.declared.latest.Latest.TheVariants as latests
use Rattle.history_picture.specs.declared.reason.Reason.{Reason}
use Rattle.history_picture.specs.declared.reason.Reason.TheVariants as reasons

-- a put that was not read, and what replaced it
abbrev pub excuse_marks : ℕ → Excuse → List ℕ
excuse_marks put Later = put ∷ []
excuse_marks put Expired = put ∷ []
excuse_marks put (Replaced write) = put ∷ write ∷ []

abbrev pub excluded_marks : Excluded → List ℕ
excluded_marks excluded = excuse_marks excluded.put excluded.why

-- the latest write, if there is one
abbrev pub latest_marks : Latest → List ℕ
latest_marks latests.Nothing = []
latest_marks (latests.Other write) = write ∷ []
latest_marks (latests.Expired put) = put ∷ []

-- the calls of a side
abbrev pub side_marks : Side → List ℕ
side_marks side = side.early ∷ side.write ∷ side.late ∷ []

-- the calls of two crossed sides
abbrev pub crossed_marks : Side → Side → List ℕ
crossed_marks one other = side_marks one ++ side_marks other

-- a put that would be crossed, and the write with which it would be, with the calls that show it
abbrev pub read_marks : CrossedWrites → List ℕ
read_marks writes = crossed_marks writes.one writes.other

-- the positions of the calls that matter, the one at the place first
abbrev pub marks_of : Reason → List ℕ
marks_of (reasons.Interval position) = position ∷ []
marks_of (reasons.Hit hit puts) = hit ∷ flat_map excluded_marks (take 8 puts.items)
marks_of (reasons.Crossed one other) = crossed_marks one other
marks_of (reasons.Unread unread) = unread.hit ∷ flat_map read_marks (take 3 unread.reads.items)
marks_of (reasons.OutOfOrder place call earlier) = call ∷ earlier ∷ []
marks_of (reasons.WrongHit place hit latest) = hit ∷ latest_marks latest
marks_of (reasons.Repeated place position) = position ∷ []
marks_of (reasons.NotAPlace place position) = []
marks_of reasons.WrongCount = []
