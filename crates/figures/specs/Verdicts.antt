-- The figures of a verdict.
use Rattle.std.specs.Prelude.{ℕ, List, [], ◌∷◌, codes}
use Rattle.certificate_checker.specs.declared.fault.Fault.{Fault}
use Rattle.certificate_checker.specs.declared.fault.Fault.TheVariants.{BadInterval, WrongCount, NotAPlace, Repeated, OutOfOrder, WrongHit}
use Rattle.certificate_checker.specs.declared.verdict.Verdict.{Verdict}
use Rattle.certificate_checker.specs.declared.verdict.Verdict.TheVariants.{Accepted, Rejected}
use Rattle.figures.specs.Figures.{Row, number, row, word}

-- the kind of a fault
abbrev pub kind_of : Fault → List ℕ
kind_of (BadInterval position) = codes "BadInterval"
kind_of WrongCount = codes "WrongCount"
kind_of (NotAPlace place) = codes "NotAPlace"
kind_of (Repeated place) = codes "Repeated"
kind_of (OutOfOrder place) = codes "OutOfOrder"
kind_of (WrongHit place) = codes "WrongHit"

-- where a fault is: the position of a call, or a place of the certificate
abbrev pub place_rows : Fault → List Row
place_rows (BadInterval position) = row (codes "position") (number position) ∷ []
place_rows WrongCount = []
place_rows (NotAPlace place) = row (codes "place") (number place) ∷ []
place_rows (Repeated place) = row (codes "place") (number place) ∷ []
place_rows (OutOfOrder place) = row (codes "place") (number place) ∷ []
place_rows (WrongHit place) = row (codes "place") (number place) ∷ []

-- a fault
abbrev pub fault_rows : Fault → List Row
fault_rows fault = row (codes "fault") (word (kind_of fault)) ∷ place_rows fault

-- a verdict
abbrev pub verdict_rows : Verdict → List Row
verdict_rows Accepted = row (codes "verdict") (word (codes "accepted")) ∷ []
verdict_rows (Rejected fault) = row (codes "verdict") (word (codes "rejected")) ∷ fault_rows fault
