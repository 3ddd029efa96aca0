-- Laws of the definitions alone.
use Rattle.std.specs.Prelude.{◌≡◌, ◌↔◌, ◌⊎◌, ℕ, ◌≤◌, List, [], ◌∷◌, ◌++◌, Some, All, AllPairs}
use Rattle.std.specs.List.{flat_map}
use Rattle.record_pages.specs.declared.timed_value.TimedValue.{TimedValue}
use Rattle.trace_file.specs.declared.act.Act.TheVariants.{Hit}
use Rattle.trace_file.specs.declared.call.Call.{Call}
use Rattle.certificate_checker.specs.declared.fault.Fault.{Fault}
use Rattle.certificate_checker.specs.Acceptance.{IsAccepted}
use Rattle.certificate_checker.specs.Deeds.{Deed}
use Rattle.certificate_checker.specs.Faults.{IsFirstFault}
use Rattle.certificate_checker.specs.declared.judged.Judged.{Judged}
use Rattle.certificate_checker.specs.Judgements.{IsVerdictLineOf}
use Rattle.certificate_checker.specs.Lanes.{Done, calls_of, PointsRise, IsLane, DifferInEnds, ArePlaced, AreApart, IsLaidOut}
use Rattle.certificate_checker.specs.Latest.{IsLatest, IsLawful}
use Rattle.certificate_checker.specs.Current.{current, given_at}

-- a value is a key's latest, with its expiry, exactly when the lossy map has it
abbrev pub LatestIsCurrent : Type 0
LatestIsCurrent = (deeds : List Deed) (key : List ℕ) (latest : TimedValue) → IsLatest deeds key latest ↔ (current deeds key ≡ Some latest)

-- one more deed keeps lawful deeds lawful, if it is no hit, or a hit of what its key currently has, live at its moment
abbrev pub LawfulGrows : Type 0
LawfulGrows =
    (deeds : List Deed) (deed : Deed)
    → IsLawful deeds
    → ((value : List ℕ) (moment : ℕ) → deed.act ≡ Hit value moment → given_at moment (current deeds deed.key) ≡ Some value)
    → IsLawful (deeds ++ deed ∷ [])

-- keys that are placed in different lanes part the lanes
abbrev pub PlacedLanesAreApart : Type 0
PlacedLanesAreApart =
    (lane_of : List ℕ → ℕ) (lanes : List (List Done)) → ArePlaced lane_of lanes → AllPairs AreApart lanes

-- other ends, none before its point, keep a well recorded lane
abbrev pub EndsMayMove : Type 0
EndsMayMove =
    (lane other : List Done)
    → IsLane lane
    → DifferInEnds lane other
    → All (λ done. done.point ≤ done.call.end) other
    → IsLane other

-- well recorded lanes, no two with a key in common, are accepted as they are laid out
abbrev pub LanesAreAccepted : Type 0
LanesAreAccepted =
    (lanes : List (List Done)) (history : List Call) (certificate : List ℕ)
    → All IsLane lanes
    → AllPairs AreApart lanes
    → IsLaidOut lanes history certificate
    → IsAccepted history certificate

-- lanes can be laid out
abbrev pub LayoutExists : Type 0
LayoutExists = (lanes : List (List Done)) → (certificate : List ℕ) × IsLaidOut lanes (flat_map calls_of lanes) certificate

-- lanes whose points rise are laid out in one way
abbrev pub LayoutIsOne : Type 0
LayoutIsOne =
    (lanes : List (List Done)) (history : List Call) (one other : List ℕ)
    → All PointsRise lanes
    → IsLaidOut lanes history one
    → IsLaidOut lanes history other
    → one ≡ other

-- a pair is accepted or has a first fault
abbrev pub AcceptedOrFaulty : Type 0
AcceptedOrFaulty =
    (history : List Call) (certificate : List ℕ)
    → IsAccepted history certificate ⊎ ((fault : Fault) × IsFirstFault history certificate fault)

-- a pair that is accepted has no first fault
abbrev pub AcceptedHasNoFault : Type 0
AcceptedHasNoFault =
    (history : List Call) (certificate : List ℕ) (fault : Fault)
    → IsAccepted history certificate
    → ¬ IsFirstFault history certificate fault

-- a pair has at most one first fault
abbrev pub FirstFaultIsOne : Type 0
FirstFaultIsOne =
    (history : List Call) (certificate : List ℕ) (one other : Fault)
    → IsFirstFault history certificate one
    → IsFirstFault history certificate other
    → one ≡ other

-- any bytes have a verdict line
abbrev pub VerdictLineExists : Type 0
VerdictLineExists = (bytes : List ℕ) → (judged : Judged) × (line : List ℕ) × IsVerdictLineOf bytes judged line

-- and they have one
abbrev pub VerdictLineIsOne : Type 0
VerdictLineIsOne =
    (bytes : List ℕ) (judged other : Judged) (line another : List ℕ)
    → IsVerdictLineOf bytes judged line
    → IsVerdictLineOf bytes other another
    → (judged ≡ other) × (line ≡ another)
