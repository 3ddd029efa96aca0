-- The rows of a report: names, each with a number.
use Rattle.std.specs.Prelude.{ℕ, ◌+◌, ◌*◌, ◌/◌, List, [], ◌∷◌, codes, max}
use Rattle.figures.specs.Figures.{Row, number, row, thousandths}
use Rattle.load.specs.declared.histogram.Quantiles.{Quantiles}
use Rattle.service_lane.specs.declared.counter.Counter.TheVariants as counter
use Rattle.service_lane.specs.declared.counts.Counts.{Counts}
use Rattle.service_lane.specs.Counters.{number as number_in}
use Rattle.serve_load.specs.Totals.{added}

-- operations a second: of a load that took no millisecond as of one that took one
abbrev pub rate_of : ℕ → ℕ → ℕ
rate_of operations milliseconds = operations * 1000 / max milliseconds 1

-- hits of all tiers
abbrev pub hits_of : Counts → ℕ
hits_of c = number_in counter.MemoryHits c + number_in counter.LogHits c + number_in counter.SetHits c

-- hits and misses
abbrev pub gets_of : Counts → ℕ
gets_of c =
    hits_of c + (number_in counter.Absent c + number_in counter.Expired c) + (number_in counter.Faults c + number_in counter.Damaged c)

-- the share of hits among gets, in thousandths; of no gets as of one miss
abbrev pub ratio_of : Counts → ℕ
ratio_of c = hits_of c * 1000 / max (gets_of c) 1

-- hits and misses, as counters go
abbrev pub answered_of : Counts → ℕ
answered_of c =
    let hits = added (added (number_in counter.MemoryHits c) (number_in counter.LogHits c)) (number_in counter.SetHits c) in
    added (added hits (added (number_in counter.Absent c) (number_in counter.Expired c))) (added (number_in counter.Faults c) (number_in counter.Damaged c))

-- how many gets were answered, and the share of hits among them
abbrev pub ratio_rows : Counts → List Row
ratio_rows c = row (codes "gets") (number (answered_of c)) ∷ row (codes "hit-ratio") (thousandths (ratio_of c)) ∷ []

-- how long gets took
abbrev pub get_latency_rows : Quantiles → List Row
get_latency_rows times =
    row (codes "get-p50-ns") (number times.p50)
    ∷ row (codes "get-p99-ns") (number times.p99)
    ∷ row (codes "get-p999-ns") (number times.p999)
    ∷ row (codes "get-max-ns") (number times.most)
    ∷ []

-- how long puts took
abbrev pub put_latency_rows : Quantiles → List Row
put_latency_rows times =
    row (codes "put-p50-ns") (number times.p50)
    ∷ row (codes "put-p99-ns") (number times.p99)
    ∷ row (codes "put-p999-ns") (number times.p999)
    ∷ row (codes "put-max-ns") (number times.most)
    ∷ []

-- what lanes count: how gets hit and missed, how puts were answered, how many leases were given and how fills were answered, what
-- became of what was pushed out of memory, which hits a copy answered, how many objects were brought back and how many copies were
-- dropped, which pages were written and which were not, what moves did besides, how many steps of upkeep were done, and how many
-- removals there were
abbrev pub count_rows : Counts → List Row
count_rows c =
    row (codes "hits-memory") (number (number_in counter.MemoryHits c))
    ∷ row (codes "hits-log") (number (number_in counter.LogHits c))
    ∷ row (codes "hits-set") (number (number_in counter.SetHits c))
    ∷ row (codes "misses-absent") (number (number_in counter.Absent c))
    ∷ row (codes "misses-expired") (number (number_in counter.Expired c))
    ∷ row (codes "misses-fault") (number (number_in counter.Faults c))
    ∷ row (codes "misses-damaged") (number (number_in counter.Damaged c))
    ∷ row (codes "puts-stored") (number (number_in counter.PutsStored c))
    ∷ row (codes "puts-bytes") (number (number_in counter.PutsBytes c))
    ∷ row (codes "puts-refused") (number (added (number_in counter.PutsOutOfMemory c) (number_in counter.PutsTooLarge c)))
    ∷ row (codes "leases") (number (number_in counter.LeasesGiven c))
    ∷ row (codes "fills-stored") (number (number_in counter.FillsStored c))
    ∷ row (codes "fills-bytes") (number (number_in counter.FillsBytes c))
    ∷ row (codes "fills-refused") (number (added (number_in counter.FillsOutOfMemory c) (number_in counter.FillsTooLarge c)))
    ∷ row (codes "fills-stale") (number (number_in counter.FillsStale c))
    ∷ row (codes "pushed-declined") (number (number_in counter.Declined c))
    ∷ row (codes "pushed-logged") (number (number_in counter.Logged c))
    ∷ row (codes "pushed-log-full") (number (number_in counter.LogFull c))
    ∷ row (codes "pushed-index-full") (number (number_in counter.IndexFull c))
    ∷ row (codes "copy-hits") (number (number_in counter.CopyHits c))
    ∷ row (codes "brought-back") (number (number_in counter.BroughtBack c))
    ∷ row (codes "pushed-copies") (number (number_in counter.PushedCopies c))
    ∷ row (codes "pages-written") (number (number_in counter.PagesWritten c))
    ∷ row (codes "pages-lost") (number (number_in counter.PagesLost c))
    ∷ row (codes "sets-written") (number (number_in counter.SetsWritten c))
    ∷ row (codes "sets-forgotten") (number (number_in counter.SetsForgotten c))
    ∷ row (codes "segments-freed") (number (number_in counter.SegmentsFreed c))
    ∷ row (codes "moves-readmitted") (number (number_in counter.Readmitted c))
    ∷ row (codes "moves-dropped") (number (number_in counter.Dropped c))
    ∷ row (codes "moves-refused") (number (number_in counter.MovesOutOfMemory c))
    ∷ row (codes "upkeep-steps") (number (number_in counter.UpkeepSteps c))
    ∷ row (codes "upkeep-in-help") (number (number_in counter.StepsInHelp c))
    ∷ row (codes "removals") (number (number_in counter.Removals c))
    ∷ []
