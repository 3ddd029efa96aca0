-- How messages spell the faults.
use Rattle.std.specs.Prelude.{ℕ, List, ◌++◌, codes}
use Rattle.std.specs.Fmt.{decimal}
use Rattle.certificate_checker.specs.declared.fault.Fault.{Fault}
use Rattle.certificate_checker.specs.declared.fault.Fault.TheVariants.{BadInterval, WrongCount, NotAPlace, Repeated, OutOfOrder, WrongHit}

-- a fault's name, and where it is
abbrev pub fault_text : Fault → List ℕ
fault_text (BadInterval position) = codes "BadInterval position " ++ decimal position
fault_text WrongCount = codes "WrongCount"
fault_text (NotAPlace place) = codes "NotAPlace place " ++ decimal place
fault_text (Repeated place) = codes "Repeated place " ++ decimal place
fault_text (OutOfOrder place) = codes "OutOfOrder place " ++ decimal place
fault_text (WrongHit place) = codes "WrongHit place " ++ decimal place
