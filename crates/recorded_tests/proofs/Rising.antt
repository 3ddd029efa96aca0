-- Lanes that grow, and whose points rise.
use Rattle.std.proofs.Common.{◌≡◌, ℕ, ◌+◌, ◌<◌, ◌≤◌, List, [], ◌∷◌, ◌++◌, length, ap, arith, length-append}
use Rattle.std.specs.Prelude.{All}
use Rattle.std.specs.List.{flat_map}
use Rattle.std.proofs.lemmas.List.{length-map}
use Rattle.std.proofs.lemmas.List.Concat.{flat_map-append}
use Rattle.std.proofs.lemmas.List.Elements.{All-nil, All-push}
use Rattle.std.proofs.lemmas.List.Quantifiers.{all_pairs_push}
use Rattle.certificate_checker.specs.declared.done.Done.{Done}
use Rattle.certificate_checker.specs.Lanes.{calls_of, PointsRise}

-- points rise, up to one
pub record RisesTo (lane : List Done) (last : ℕ) : Type 0 where
  pub rise : PointsRise lane
  pub to : All (λ done. done.point ≤ last) lane

pub none_rise : RisesTo [] 0
none_rise = record {
  rise = λ i j d less within. absurd (let no : j < 0 = within in omega arith);
  to = All-nil (λ (d : Done). d.point ≤ 0);
}

pub one_more : (lane : List Done) (done : Done) (last point : ℕ) → RisesTo lane last → done.point ≡ point → last < point → RisesTo (lane ++ done ∷ []) point
one_more lane done last point rises is less = record {
  rise = all_pairs_push (λ (a b : Done). a.point < b.point) lane done rises.rise (λ k d within. let at = rises.to k d within in omega (arith, at, is, less));
  to = All-push (λ (d : Done). d.point ≤ point) lane done (λ k d within. let at = rises.to k d within in omega (arith, at, less)) (omega (arith, is));
}

-- one lane more has its calls more
pub calls_more : (lanes : List (List Done)) (lane : List Done) → length (flat_map calls_of (lanes ++ lane ∷ [])) ≡ length (flat_map calls_of lanes) + length lane
calls_more lanes lane =
    let split = ap length (flat_map-append calls_of lanes (lane ∷ [])) in
    let sum = length-append (flat_map calls_of lanes) (flat_map calls_of (lane ∷ [])) in
    let one = length-append (calls_of lane) [] in
    let own = length-map lane (λ (d : Done). d.call) in
    omega (arith, split, sum, one, own)
