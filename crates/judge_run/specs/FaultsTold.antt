-- How all faults of a history are told, and how many there are.
use Rattle.std.specs.Prelude.{ℕ, ◌==◌, nat_lt, Bool, true, false, List, [], ◌∷◌, ◌++◌, map, if◌then◌else◌, codes, Option, Some, None}
use Rattle.std.specs.Fmt.{decimal}
use Rattle.std.specs.List.{flat_map}
use Rattle.trace_file.specs.declared.call.Call.{Call}
use Rattle.figures.specs.declared.form.Form.{Form}
use Rattle.figures.specs.declared.form.Form.TheVariants.{Lines, Json}
use Rattle.figures.specs.Figures.{Row, number, row}
use Rattle.judge_run.specs.Objects.{object_of, with_objects}
use Rattle.judge_run.specs.ReasonRows.{reason_rows}
use Rattle.judge_run.specs.FromStart.{start_lines, start_text}
use Rattle.judge_run.specs.Telling.{reason_text}
use Rattle.judge_run.specs.declared.told_fault.ToldFault.{ToldFault}

-- how late a hit is, if that is known
abbrev pub late_text : Option ℕ → List ℕ
late_text None = []
late_text (Some time) = codes " late " ++ decimal time

-- the line of a fault of calls that stand on these lines, of which so many were recorded, with the line feed
abbrev pub fault_text : List Call → List ℕ → ℕ → ToldFault → List ℕ
fault_text calls lines recorded fault =
    codes "fault " ++ (reason_text calls lines fault.reason ++ (late_text fault.late ++ (start_text (start_lines lines recorded fault.reason) ++ codes "\n")))

-- how late a hit is, if that is known
abbrev pub late_rows : Option ℕ → List Row
late_rows None = []
late_rows (Some time) = row (codes "late") (number time) ∷ []

-- the rows of a fault
abbrev pub fault_rows : List Call → List ℕ → ℕ → ToldFault → List Row
fault_rows calls lines recorded fault = reason_rows calls lines recorded fault.reason ++ late_rows fault.late

-- the object of a fault
abbrev pub fault_object : List Call → List ℕ → ℕ → ToldFault → List ℕ
fault_object calls lines recorded fault = object_of (fault_rows calls lines recorded fault)

-- the answer to a history that is rejected, with all its faults: a line for each, or a member with an object for each
abbrev pub with_faults : Form → List Call → List ℕ → ℕ → List ToldFault → List ℕ → List ℕ
with_faults Lines calls lines recorded faults begun = begun ++ flat_map (fault_text calls lines recorded) faults
with_faults Json calls lines recorded faults begun = with_objects begun (codes "faults") (map (fault_object calls lines recorded) faults)

-- the same if that is wanted
abbrev pub listed : Form → Bool → List Call → List ℕ → ℕ → List ToldFault → List ℕ → List ℕ
listed form true calls lines recorded faults begun = with_faults form calls lines recorded faults begun
listed form false calls lines recorded faults begun = begun

-- at how many keys faults are
abbrev pub keys_text : ℕ → List ℕ
keys_text keys = if keys == 1 then codes "one key" else decimal keys ++ codes " keys"

-- how many faults there are, and at how many keys; nothing if there is no other one
abbrev pub more_text : ℕ → ℕ → List ℕ
more_text faults keys =
    if nat_lt 1 faults then codes "this is one of " ++ (decimal faults ++ (codes " faults, at " ++ (keys_text keys ++ codes "\n"))) else []
