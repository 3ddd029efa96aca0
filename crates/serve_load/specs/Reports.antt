-- The text of a report.
use Rattle.std.specs.Prelude.{◌≡◌, ◌≤◌, ◌*◌, ℕ, List, [], ◌∷◌, ◌++◌, codes, length}
use Rattle.figures.specs.declared.form.Form.{Form}
use Rattle.figures.specs.declared.form.Form.TheVariants.{Lines}
use Rattle.figures.specs.Figures.{Row, number, row, thousandths, with_rows}
use Rattle.load.specs.declared.serve_load.ServeLoad.{ServeLoad}
use Rattle.serve_load.specs.declared.report.Report.{Report}
use Rattle.serve_load.specs.declared.lane_end.LaneEnd.{LaneEnd}
use Rattle.serve_load.specs.declared.sums.Sums.{Sums}
use Rattle.serve_load.specs.declared.told_hit.ToldHit.{ToldHit}
use Rattle.serve_load.specs.Calls.{IsTally}
use Rattle.serve_load.specs.Closing.{closed}
use Rattle.serve_load.specs.Rows.{count_rows, get_latency_rows, put_latency_rows, rate_of, ratio_rows}
use Rattle.serve_load.specs.Tallies.{AddUp}
use Rattle.serve_load.specs.Times.{AreTold}
use Rattle.serve_load.specs.WrongHits.{hit_rows}

-- how many operations, and in what time
abbrev pub run_rows : Report → List Row
run_rows r =
    row (codes "operations") (number r.operations)
    ∷ row (codes "seconds") (thousandths r.milliseconds)
    ∷ row (codes "operations-a-second") (number (rate_of r.operations r.milliseconds))
    ∷ []

-- what is left at the end, and what the callers found
abbrev pub last_rows : Report → List Row
last_rows r =
    row (codes "memory-objects") (number r.memory_objects)
    ∷ row (codes "log-records") (number r.log_records)
    ∷ row (codes "refused") (number r.refused)
    ∷ row (codes "wrong-hits") (number r.wrong_hits)
    ∷ []

-- how many operations, in what time, and how many gets were answered
abbrev pub call_rows : Report → List Row
call_rows r = run_rows r ++ (ratio_rows r.counts ++ (get_latency_rows r.timed.gets ++ put_latency_rows r.timed.puts))

-- the last rows, and one for each wrong hit
abbrev pub end_rows : Report → ServeLoad → List ToldHit → List Row
end_rows r load hits = last_rows r ++ hit_rows load hits

-- all rows
abbrev pub rows_of : Report → ServeLoad → List ToldHit → List Row
rows_of r load hits = call_rows r ++ (count_rows r.counts ++ end_rows r load hits)

-- all rows, and the end
unfoldable pub report_of : Form → Report → ServeLoad → List ToldHit → List ℕ
report_of form r load hits = closed form (with_rows form [] (rows_of r load hits))

-- the wrong hits as they are told beside the report: a line for each
abbrev pub hit_lines : ServeLoad → List ToldHit → List ℕ
hit_lines load hits = with_rows Lines [] (hit_rows load hits)

-- the report has the sums of the callers, their times, and what the lanes tell together
pub record IsReportOf (sums : Sums) (milliseconds : ℕ) (total : LaneEnd) (report : Report) : Type 0 where
  pub operations_are : report.operations ≡ sums.operations
  pub refused_are : report.refused ≡ sums.refused
  pub wrong_are : report.wrong_hits ≡ length sums.hits.items
  pub milliseconds_are : report.milliseconds ≡ milliseconds
  pub gets_are : AreTold sums.times.gets report.timed.gets
  pub puts_are : AreTold sums.times.puts report.timed.puts
  pub counts_are : report.counts ≡ total.counts
  pub memory_is : report.memory_objects ≡ total.memory_objects
  pub log_is : report.log_records ≡ total.log_records

-- Each of the load's callers ended by itself, or a hit was wrong: without a limit of time they made all operations then. Operations,
-- refusals and wrong hits are the sums of what this many of its callers counted at their end, and the hits are those at which they stopped.
pub record IsMade (load : ServeLoad) (report : Report) (hits : List ToldHit) : Type 0 where
  pub whole : ℕ
  pub most : report.operations ≤ load.callers * load.operations
  pub told : report.wrong_hits ≡ length hits
  pub each : report.wrong_hits ≡ 0 → whole ≡ load.callers
  pub all : load.seconds ≡ 0 → report.wrong_hits ≡ 0 → report.operations ≡ load.callers * load.operations
  pub sums : AddUp (IsTally load) load.callers report.operations report.refused whole hits
