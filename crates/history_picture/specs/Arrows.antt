-- Which call precedes which, if that matters for a reason.
use Rattle.std.specs.Prelude.{ℕ, List, [], ◌∷◌, take}
use Rattle.std.specs.List.{flat_map}
use Rattle.certificate_finder.specs.declared.excluded.Excluded.{Excluded}
use Rattle.certificate_finder.specs.declared.excluded.Excuse.{Excuse}
use Rattle.certificate_finder.specs.declared.excluded.Excuse.TheVariants.{Later, Expired, Replaced}
use Rattle.certificate_finder.specs.declared.faults.CrossedWrites.{CrossedWrites}
use Rattle.certificate_finder.specs.declared.witness.Side.{Side}
use Rattle.history_picture.specs.declared.arrows.Arrow.{Arrow}
use Rattle.history_picture.specs.declared.reason.Reason.{Reason}
use Rattle.history_picture.specs.declared.reason.Reason.TheVariants as reasons

-- from a call to one that it precedes
abbrev pub arrow : ℕ → ℕ → Arrow
arrow from to = record { from = from; to = to }

-- a hit precedes a put that came later; a put that was replaced precedes the write that replaced it, and that one the hit
abbrev pub excuse_arrows : ℕ → ℕ → Excuse → List Arrow
excuse_arrows hit put Later = arrow hit put ∷ []
excuse_arrows hit put Expired = []
excuse_arrows hit put (Replaced write) = arrow put write ∷ arrow write hit ∷ []

-- what precedes what, for a put that a hit can't have read
abbrev pub excluded_arrows : ℕ → Excluded → List Arrow
excluded_arrows hit excluded = excuse_arrows hit excluded.put excluded.why

-- of two crossed sides the early call of each precedes the late call of the other
abbrev pub crossed_arrows : Side → Side → List Arrow
crossed_arrows one other = arrow one.early other.late ∷ arrow other.early one.late ∷ []

-- the same for a put that a hit would cross with another write
abbrev pub read_arrows : CrossedWrites → List Arrow
read_arrows writes = crossed_arrows writes.one writes.other

-- what precedes what, if that is the reason
abbrev pub arrows_of : Reason → List Arrow
arrows_of (reasons.Interval position) = []
arrows_of (reasons.Hit hit puts) = flat_map (excluded_arrows hit) (take 8 puts.items)
arrows_of (reasons.Crossed one other) = crossed_arrows one other
arrows_of (reasons.Unread unread) = flat_map read_arrows (take 3 unread.reads.items)
arrows_of (reasons.OutOfOrder place call earlier) = arrow call earlier ∷ []
arrows_of (reasons.WrongHit place hit latest) = []
arrows_of (reasons.Repeated place position) = []
arrows_of (reasons.NotAPlace place position) = []
arrows_of reasons.WrongCount = []
