-- Lanes that are parted by where their keys are placed, and lanes with other ends.
use Rattle.std.proofs.Common.{◌≡◌, ◌<◌, ◌≤◌, ℕ, suc, List, [], ◌∷◌, get_or, map, sym, ap, ◌∙◌, subst, arith}
use Rattle.std.specs.Prelude.{All, AllPairs}
use Rattle.std.proofs.lemmas.List.Elements.{All-map}
use Rattle.std.proofs.lemmas.List.{length-map, get_or-map}
use Rattle.std.proofs.lemmas.List.Kept.{AllPairs-cons}
use Rattle.std.proofs.lemmas.Option.{slice_get-get_or}
use Rattle.std.proofs.lemmas.Simd.{map-map}
use Rattle.certificate_checker.specs.Deeds.{deed_of}
use Rattle.certificate_checker.specs.Latest.{IsLawful}
use Rattle.certificate_checker.specs.Lanes.{Done, deeds_done, PointsRise, IsLane, without_end, DifferInEnds, ArePlaced, AreApart}

-- lanes of other numbers have other keys
pub placed_apart : (lane_of : List ℕ → ℕ) (lanes : List (List Done)) → ArePlaced lane_of lanes → AllPairs AreApart lanes
placed_apart lane_of lanes placed = λ i j d less within k a lt m b inside same.
    let one = get_or lanes i d in
    let other = get_or lanes j d in
    let here : lane_of (get_or one k a).call.key ≡ i = placed i one (slice_get-get_or lanes i d (omega arith)) k a lt in
    let there : lane_of (get_or other m b).call.key ≡ j = placed j other (slice_get-get_or lanes j d within) m b inside in
    let both : i ≡ j = sym here ∙ ap lane_of same ∙ there in
    absurd (omega (arith, both))

-- ---- what holds of a list and of what each element is seen as

pairs_seen : {X Y : Type 0} (R : Y → Y → Type 0) (f : X → Y) (xs : List X) → AllPairs (λ a b. R (f a) (f b)) xs → AllPairs R (map f xs)
pairs_seen R f [] h = λ i j d lt within. absurd (omega arith)
pairs_seen R f (x ∷ xs) h =
    AllPairs-cons R (f x) (map f xs) (All-map (R (f x)) f xs (λ k d lt. h 0 (suc k) d (omega arith) (omega arith))) (pairs_seen R f xs (λ i j d lt within. h (suc i) (suc j) d (omega arith) (omega arith)))

pairs_so : {X Y : Type 0} (R : Y → Y → Type 0) (f : X → Y) (xs : List X) → AllPairs R (map f xs) → AllPairs (λ a b. R (f a) (f b)) xs
pairs_so R f xs h = λ i j d lt within.
    let lengths = length-map xs f in
    subst (λ y. R (f (get_or xs i d)) y) (get_or-map f xs j d (f d) within) (subst (λ y. R y (get_or (map f xs) j (f d))) (get_or-map f xs i d (f d) (omega arith)) (h i j (f d) lt (omega arith)))

all_so : {X Y : Type 0} (P : Y → Type 0) (f : X → Y) (xs : List X) → All P (map f xs) → All (λ x. P (f x)) xs
all_so P f xs h = λ k d lt.
    let lengths = length-map xs f in
    subst P (get_or-map f xs k d (f d) lt) (h k (f d) (omega arith))

-- the deeds of a lane, without the ends
deeds_without : (lane : List Done) → deeds_done (map without_end lane) ≡ deeds_done lane
deeds_without lane = map-map (λ (done : Done). deed_of done.call) without_end lane

pub ends_moved : (lane other : List Done) → IsLane lane → DifferInEnds lane other → All (λ (done : Done). done.point ≤ done.call.end) other → IsLane other
ends_moved lane other is same ended = record {
  points_rise = pairs_so (λ (a b : Done). a.point < b.point) without_end other (subst PointsRise same (pairs_seen (λ (a b : Done). a.point < b.point) without_end lane is.points_rise));
  started = all_so (λ (d : Done). d.call.start < d.point) without_end other (subst (All (λ (d : Done). d.call.start < d.point)) same (All-map (λ (d : Done). d.call.start < d.point) without_end lane is.started));
  ended = ended;
  lawful = subst IsLawful (sym (deeds_without lane) ∙ ap deeds_done same ∙ deeds_without other) is.lawful;
}
