use Rattle.std.proofs.Common.{map}
use Rattle.std.proofs.lemmas.List.Sorted.{IsPermutation-map, All-permutation}
use Rattle.certificate_checker.proofs.public_laws.Listing.{pairs_from}
use Rattle.certificate_finder.specs.Spots.{Spotted, IsWithin}
use Rattle.certificate_finder.proofs.Merging.{order_permuted, merged}
use Rattle.certificate_finder.proofs.laws.sorted_spots_are_accepted.Goals as goal

pub returns : goal.returns
returns c = λ history line sorted spots permuted keeps rise.
    merged (λ (spot : Spotted). spot.position) (λ (spot : Spotted). spot.point) history line sorted
    (order_permuted history (map (λ (spot : Spotted). spot.position) line) (map (λ (spot : Spotted). spot.position) sorted) (IsPermutation-map (λ (spot : Spotted). spot.position) line sorted permuted) spots.order)
    (All-permutation (IsWithin history) line sorted permuted spots.within)
    spots.lawful keeps (pairs_from _ sorted rise)
