-- Laws of the definitions alone.
use Rattle.std.specs.Prelude.{◌↔◌, ℕ, List, filter}
use Rattle.std.specs.List.Sorted.{IsPermutation}
use Rattle.trace_file.specs.declared.call.Call.{Call}
use Rattle.certificate_checker.specs.Acceptance.{IsAccepted}
use Rattle.certificate_checker.specs.Deeds.{Deed}
use Rattle.certificate_checker.specs.Latest.{IsLawful}
use Rattle.certificate_finder.specs.declared.witness.Witness.{Witness}
use Rattle.certificate_finder.specs.Spots.{Spotted, positions_of, AreLawfulSpots, PointsRise, is_of, KeysKeepOrder}
use Rattle.certificate_finder.specs.Witnesses.{IsWitness}

-- a history that has a witness is accepted with no certificate
abbrev pub WitnessExcludes : Type 0
WitnessExcludes = (history : List Call) (witness : Witness) (certificate : List ℕ) → IsWitness history witness → ¬ IsAccepted history certificate

-- deeds are lawful exactly if those of each key are, without its misses
abbrev pub LawfulByKeys : Type 0
LawfulByKeys = (deeds : List Deed) → IsLawful deeds ↔ ((key : List ℕ) → IsLawful (filter (is_of key) deeds))

-- lawful spots, sorted by their points so that those of each key keep their order, are accepted
abbrev pub SortedSpotsAreAccepted : Type 0
SortedSpotsAreAccepted =
    (history : List Call) (line sorted : List Spotted)
    → AreLawfulSpots history line
    → IsPermutation line sorted
    → KeysKeepOrder history sorted line
    → PointsRise sorted
    → IsAccepted history (positions_of sorted)
