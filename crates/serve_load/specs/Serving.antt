-- What a load wrote, by how it ended.
use Rattle.std.specs.Prelude.{◌≡◌, ◌⊎◌, ◌<◌, ◌+◌, ℕ, List, Option, Some, None, IsNone, IsSome, string_bytes}
use Rattle.std.specs.Io.KnownBytes.{Appends, Keeps}
use Rattle.figures.specs.Figures.{form_of}
use Rattle.load.specs.declared.serve_load.ServeLoad.{ServeLoad}
use Rattle.serve_load.specs.declared.report.Report.{Report}
use Rattle.serve_load.specs.declared.serve_end.ServeEnd.{ServeEnd}
use Rattle.serve_load.specs.declared.serve_end.ServeEnd.TheVariants as ends
use Rattle.serve_load.specs.declared.serve_cause.ServeCause.{ServeCause}
use Rattle.serve_load.specs.declared.serve_cause.ServeCause.TheVariants as causes
use Rattle.serve_load.specs.declared.told_hit.ToldHit.{ToldHit}
use Rattle.serve_load.specs.Ends.{end_of_wrong_hits, status_of}
use Rattle.serve_load.specs.Wanting.{RefusesSize}
use Rattle.serve_load.specs.Reports.{IsMade, hit_lines, report_of}

-- the text of a report on what the callers made was written, in the form that the load wants, and the load ended as its wrong hits say
pub record IsTold (load : ServeLoad) (old new : Option (List ℕ)) (end : ServeEnd) : Type 0 where
  pub report : Report
  pub hits : List ToldHit
  pub made : IsMade load report hits
  pub wrote : Appends old new (report_of (form_of load.json) report load hits)
  pub ended : end ≡ end_of_wrong_hits report.wrong_hits

-- what was written if a load ended so: a report if its callers ended, else nothing, and if a file, the output or the clock
-- failed nothing is said
abbrev pub WroteReport : ServeLoad → Option (List ℕ) → Option (List ℕ) → ServeEnd → Type 0
WroteReport load old new ends.Right = IsTold load old new ends.Right
WroteReport load old new ends.WrongHit = IsTold load old new ends.WrongHit
WroteReport load old new ends.SharesExceed = Keeps old new
WroteReport load old new ends.NoSize = Keeps old new
WroteReport load old new (ends.Size fault) = Keeps old new
WroteReport load old new ends.OutOfMemory = Keeps old new
WroteReport load old new ends.FileFault = Unit {0}

-- the report was written, or memory was refused and nothing was, or the output failed
abbrev pub IsSaid : ServeLoad → Report → List ToldHit → Option (List ℕ) → Option (List ℕ) → ServeEnd → Type 0
IsSaid load report hits old new end =
    (Appends old new (report_of (form_of load.json) report load hits) × (end ≡ end_of_wrong_hits report.wrong_hits))
    ⊎ ((end ≡ ends.OutOfMemory) × Keeps old new)
    ⊎ (end ≡ ends.FileFault)

-- the lines of wrong hits that are told with a cause
abbrev pub lines_of : Option ServeCause → Option (List ℕ)
lines_of None = None
lines_of (Some (causes.System fault)) = None
lines_of (Some (causes.Cache fault)) = None
lines_of (Some (causes.Hits lines)) = Some (string_bytes lines)

-- at a wrong hit the lines of these hits are told, and at no other end any
abbrev pub TellsHits : ServeLoad → List ToldHit → ServeEnd → Option ServeCause → Type 0
TellsHits load hits ends.WrongHit cause = lines_of cause ≡ Some (hit_lines load hits)
TellsHits load hits ends.Right cause = lines_of cause ≡ None
TellsHits load hits ends.SharesExceed cause = lines_of cause ≡ None
TellsHits load hits ends.NoSize cause = lines_of cause ≡ None
TellsHits load hits (ends.Size fault) cause = lines_of cause ≡ None
TellsHits load hits ends.OutOfMemory cause = lines_of cause ≡ None
TellsHits load hits ends.FileFault cause = lines_of cause ≡ None

-- gets and removes exceed 100
abbrev pub Exceeds : ServeLoad → Type 0
Exceeds load = 100 < load.gets + load.removes

-- bytes of memory are given and no size
abbrev pub LacksSize : ServeLoad → Type 0
LacksSize load = IsNone load.size × IsSome load.memory_bytes

-- each refusal before anything is opened comes for its reason, and if none came, there was no reason for the first two
abbrev pub IsRefusedFirst : ServeLoad → ServeEnd → Type 0
IsRefusedFirst load ends.SharesExceed = Exceeds load
IsRefusedFirst load ends.NoSize = (¬ Exceeds load) × LacksSize load
IsRefusedFirst load (ends.Size fault) = (¬ Exceeds load) × (¬ LacksSize load) × RefusesSize load load.size fault
IsRefusedFirst load ends.Right = (¬ Exceeds load) × (¬ LacksSize load)
IsRefusedFirst load ends.WrongHit = (¬ Exceeds load) × (¬ LacksSize load)
IsRefusedFirst load ends.OutOfMemory = (¬ Exceeds load) × (¬ LacksSize load)
IsRefusedFirst load ends.FileFault = (¬ Exceeds load) × (¬ LacksSize load)

-- nothing was refused before anything was opened
abbrev pub IsLate : ServeEnd → Type 0
IsLate ends.Right = Unit {0}
IsLate ends.WrongHit = Unit {0}
IsLate ends.OutOfMemory = Unit {0}
IsLate ends.FileFault = Unit {0}
IsLate ends.SharesExceed = ⊥
IsLate ends.NoSize = ⊥
IsLate (ends.Size fault) = ⊥

-- a load over devices that were there ended with this status
pub record IsServedOver (load : ServeLoad) (old new : Option (List ℕ)) (status : ℕ) : Type 0 where
  pub end : ServeEnd
  pub status_is : status ≡ status_of end
  pub late : IsLate end
  pub wrote : WroteReport load old new end

-- a load ended with this status
pub record IsServed (load : ServeLoad) (old new : Option (List ℕ)) (status : ℕ) : Type 0 where
  pub end : ServeEnd
  pub status_is : status ≡ status_of end
  pub first : IsRefusedFirst load end
  pub wrote : WroteReport load old new end
