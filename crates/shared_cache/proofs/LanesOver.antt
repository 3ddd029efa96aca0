-- The lanes of a cache that is over.
use Rattle.std.proofs.Common.{Bool, Option, ◌≡◌, ℕ, zero, suc, ◌+◌, ◌*◌, ◌^◌, ◌<◌, ◌≤◌, List, [], ◌∷◌, ◌++◌, length, Some, slice_get, All, AllPairs, IsTrue, sym, refl, ap, ◌∙◌, subst, arith, get_or, map, length-append}
use Rattle.std.specs.List.{flat_map}
use Rattle.std.proofs.lemmas.List.{length-map, get_or-map}
use Rattle.std.proofs.lemmas.List.Elements.{All-cons, All-nil}
use Rattle.std.proofs.lemmas.Simd.{map-map}
use mathlib.Core.List.{map-append}
use Rattle.record_pages.specs.declared.layout.Layout.{Layout}
use Rattle.trace_file.specs.declared.call.Call.{Call}
use Rattle.certificate_checker.specs.declared.done.Done.{Done}
use Rattle.certificate_checker.specs.Latest.{IsLawful}
use Rattle.certificate_checker.specs.Lanes.{calls_of, PointsRise, IsLane, ArePlaced}
use Rattle.recorded_lane.specs.declared.noted.Noted.{Noted}
use Rattle.recorded_lane.specs.Lane.{Lane, IsRecorded, deed_noted, max_calls}
use Rattle.recorded_lane.specs.Points.{at_point, noted_in}
use Rattle.history_recorder.specs.Operations.{lane_of_key}
use Rattle.shared_cache.specs.declared.lane_left.LaneLeft.{LaneLeft}
use Rattle.shared_cache.specs.Claimed.{noted_of, recorded_of, IsEnded}
use Rattle.shared_cache.specs.Settled.{AreNumbered, recorded_in}
use Rattle.shared_cache.specs.Over.{IsOver, AreOver}

-- one lane more is over
pub over_more : {D : Type 0} (honest : D → Bool) (lane_of : List ℕ → ℕ) (n k : ℕ) (cs : List (List Noted)) (ds : List D) (c : List Noted) (d : D)
    → k ≡ n + length cs → AreOver honest lane_of n cs ds → IsOver honest lane_of k c d → AreOver honest lane_of n (cs ++ c ∷ []) (ds ++ d ∷ [])
over_more honest lane_of n k [] [] c d at all h = (subst (λ m. IsOver honest lane_of m c d) (let e : k ≡ n = omega arith in e) h, tt)
over_more honest lane_of n k [] (e ∷ ds) c d at all h = absurd all
over_more honest lane_of n k (b ∷ cs) [] c d at all h = absurd all
over_more honest lane_of n k (b ∷ cs) (e ∷ ds) c d at all h = (all.0, over_more honest lane_of (suc n) k cs ds c d (omega arith) all.1 h)

pairs_so : {X Y : Type 0} (R : Y → Y → Type 0) (f : X → Y) (xs : List X) → AllPairs R (map f xs) → AllPairs (λ a b. R (f a) (f b)) xs
pairs_so R f xs h = λ i j d lt within.
    let lengths = length-map xs f in
    subst (λ y. R (f (get_or xs i d)) y) (get_or-map f xs j d (f d) within) (subst (λ y. R y (get_or (map f xs) j (f d))) (get_or-map f xs i d (f d) (omega arith)) (h i j (f d) lt (omega arith)))

all_so : {X Y : Type 0} (P : Y → Type 0) (f : X → Y) (xs : List X) → All P (map f xs) → All (λ x. P (f x)) xs
all_so P f xs h = λ k d lt.
    let lengths = length-map xs f in
    subst P (get_or-map f xs k d (f d) lt) (h k (f d) (omega arith))

-- the points of its calls rise
pub rise_of : {D : Type 0} (honest : D → Bool) (lane_of : List ℕ → ℕ) (n : ℕ) (lane : List Done) (d : D) → IsOver honest lane_of n (map noted_of lane) d → PointsRise lane
rise_of honest lane_of n lane d over = pairs_so (λ (a b : Noted). a.point < b.point) noted_of lane over.points

-- it is well recorded if its device is honest
pub lane_over : {D : Type 0} (honest : D → Bool) (lane_of : List ℕ → ℕ) (n : ℕ) (lane : List Done) (d : D) → IsOver honest lane_of n (map noted_of lane) d → All IsEnded lane → IsTrue (honest d) → IsLane lane
lane_over honest lane_of n lane d over ended is = record {
  points_rise = rise_of honest lane_of n lane d over;
  started = all_so (λ (a : Noted). a.start < a.point) noted_of lane over.starts;
  ended = ended;
  lawful = subst IsLawful (map-map deed_noted noted_of lane) (over.lawful is);
}

pub rise_over : {D : Type 0} (honest : D → Bool) (lane_of : List ℕ → ℕ) (n : ℕ) (ls : List (List Done)) (ds : List D) → AreOver honest lane_of n (recorded_of ls) ds → All PointsRise ls
rise_over honest lane_of n [] ds all = All-nil PointsRise
rise_over honest lane_of n (l ∷ ls) [] all = absurd all
rise_over honest lane_of n (l ∷ ls) (d ∷ ds) all = All-cons PointsRise l ls (rise_of honest lane_of n l d all.0) (rise_over honest lane_of (suc n) ls ds all.1)

pub lanes_over : {D : Type 0} (honest : D → Bool) (lane_of : List ℕ → ℕ) (n : ℕ) (ls : List (List Done)) (ds : List D)
    → AreOver honest lane_of n (recorded_of ls) ds → All (All IsEnded) ls → All (λ d. IsTrue (honest d)) ds → All IsLane ls
lanes_over honest lane_of n [] ds all ended is = All-nil IsLane
lanes_over honest lane_of n (l ∷ ls) [] all ended is = absurd all
lanes_over honest lane_of n (l ∷ ls) (d ∷ ds) all ended is =
    All-cons IsLane l ls
    (lane_over honest lane_of n l d all.0 (ended 0 l (omega arith)) (is 0 d (omega arith)))
    (lanes_over honest lane_of (suc n) ls ds all.1 (λ k e low. ended (suc k) e (omega arith)) (λ k e low. is (suc k) e (omega arith)))

-- each key is in the lane of its number
placed_from : {D : Type 0} (honest : D → Bool) (lane_of : List ℕ → ℕ) (n : ℕ) (ls : List (List Done)) (ds : List D)
    → AreOver honest lane_of n (recorded_of ls) ds → (k : ℕ) (lane : List Done) → slice_get ls k ≡ Some lane → All (λ done. lane_of done.call.key ≡ n + k) lane
placed_from honest lane_of n [] ds all k lane at = absurd cc
placed_from honest lane_of n (l ∷ ls) [] all k lane at = absurd all
placed_from honest lane_of n (l ∷ ls) (d ∷ ds) all zero lane at =
    let is : l ≡ lane = cc in
    let n0 : n ≡ n + 0 = omega arith in
    subst (λ m. All (λ (done : Done). lane_of done.call.key ≡ m) lane) n0 (subst (All (λ (done : Done). lane_of done.call.key ≡ n)) is (all_so (λ (a : Noted). lane_of a.key ≡ n) noted_of l all.0.keys))
placed_from honest lane_of n (l ∷ ls) (d ∷ ds) all (suc k) lane at =
    let m : suc n + k ≡ n + suc k = omega arith in
    subst (λ j. All (λ (done : Done). lane_of done.call.key ≡ j) lane) m (placed_from honest lane_of (suc n) ls ds all.1 k lane at)

pub placed_over : {D : Type 0} (honest : D → Bool) (lane_of : List ℕ → ℕ) (ls : List (List Done)) (ds : List D) → AreOver honest lane_of 0 (recorded_of ls) ds → ArePlaced lane_of ls
placed_over honest lane_of ls ds all = λ k lane at.
    let m : 0 + k ≡ k = omega arith in
    subst (λ j. All (λ (done : Done). lane_of done.call.key ≡ j) lane) m (placed_from honest lane_of 0 ls ds all k lane at)

-- there are few calls in few lanes
pub few_over : {D : Type 0} (honest : D → Bool) (lane_of : List ℕ → ℕ) (n : ℕ) (ls : List (List Done)) (ds : List D) → AreOver honest lane_of n (recorded_of ls) ds → length (flat_map calls_of ls) ≤ length ls * max_calls
few_over honest lane_of n [] ds all = omega arith
few_over honest lane_of n (l ∷ ls) [] all = absurd all
few_over honest lane_of n (l ∷ ls) (d ∷ ds) all =
    let rest = few_over honest lane_of (suc n) ls ds all.1 in
    let one = all.0.few in
    let a = length-append (calls_of l) (flat_map calls_of ls) in
    let b = length-map l (λ (e : Done). e.call) in
    let c = length-map l noted_of in
    omega arith

back_noted : (cs : List Noted) → map noted_in (map at_point cs) ≡ cs
back_noted [] = refl
back_noted (c ∷ cs) = ap (λ r. c ∷ r) (back_noted cs)

-- a recorded lane that is over
pub over_recorded : {D : Type 0} (honest : D → Bool) (held : D → ℕ → Option (List ℕ)) (lane : Lane D) (calls : List Call) (device : D)
    → IsRecorded honest held lane → calls ≡ map at_point lane.calls → device ≡ lane.store.device
    → IsOver honest (lane_of_key lane.store.layout) lane.lane (map noted_in calls) device
over_recorded honest held lane calls device r e s =
    let here : IsOver honest (lane_of_key lane.store.layout) lane.lane lane.calls lane.store.device =
    record { keys = r.keys; starts = r.starts; points = r.points; few = r.few; lawful = r.lawful } in
    let same : map noted_in calls ≡ lane.calls = ap (map noted_in) e ∙ back_noted lane.calls in
    subst (λ cs. IsOver honest (lane_of_key lane.store.layout) lane.lane cs device) (sym same)
    (subst (IsOver honest (lane_of_key lane.store.layout) lane.lane lane.calls) (sym s) here)

-- it is the lane with a number in a layout
pub over_by : {D : Type 0} (honest : D → Bool) (its layout : Layout) (number lane : ℕ) (calls : List Noted) (device : D)
    → its ≡ layout → number ≡ lane → IsOver honest (lane_of_key its) number calls device → IsOver honest (lane_of_key layout) lane calls device
over_by honest its layout number lane calls device same is over =
    subst (λ n. IsOver honest (lane_of_key layout) n calls device) is
    (subst (λ (l : Layout). IsOver honest (lane_of_key l) number calls device) same over)

-- one lane more is taken apart
pub over_taken : {D : Type 0} (honest : D → Bool) (lane_of : List ℕ → ℕ) (ls : List LaneLeft) (ds : List D) (l : LaneLeft) (d : D) (k : ℕ)
    → k ≡ length ls → AreOver honest lane_of 0 (recorded_in ls) ds → IsOver honest lane_of k (map noted_in l.recorded) d → AreOver honest lane_of 0 (recorded_in (ls ++ l ∷ [])) (ds ++ d ∷ [])
over_taken honest lane_of ls ds l d k at all h =
    let m : k ≡ 0 + length (recorded_in ls) = let many = length-map ls (λ (x : LaneLeft). map noted_in x.recorded) in omega arith in
    subst (λ cs. AreOver honest lane_of 0 cs (ds ++ d ∷ [])) (sym (map-append (λ (x : LaneLeft). map noted_in x.recorded) ls (l ∷ [])))
    (over_more honest lane_of 0 k (recorded_in ls) ds (map noted_in l.recorded) d m all h)

pub numbered_more : (number k : ℕ) (ls : List LaneLeft) (l : LaneLeft) → l.lane ≡ k → k ≡ number + length ls → AreNumbered number ls → AreNumbered number (ls ++ l ∷ [])
numbered_more number k [] l is at all = (let e : l.lane ≡ number = omega arith in e, tt)
numbered_more number k (x ∷ ls) l is at all = (all.0, numbered_more (suc number) k ls l is (omega arith) all.1)

-- a lane for each that was taken apart
pub lanes_as_left : (lanes : List (List Done)) (ls : List LaneLeft) → recorded_of lanes ≡ recorded_in ls → length lanes ≡ length ls
lanes_as_left lanes ls same = sym (length-map lanes (λ (l : List Done). map noted_of l)) ∙ ap length same ∙ length-map ls (λ (x : LaneLeft). map noted_in x.recorded)

-- the lanes of a cache have few calls
pub few_in : {D : Type 0} (honest : D → Bool) (lane_of : List ℕ → ℕ) (ls : List (List Done)) (ds : List D) → AreOver honest lane_of 0 (recorded_of ls) ds → length ls ≤ 16 → length (flat_map calls_of ls) ≤ 2 ^ 28
few_in honest lane_of ls ds all few = let a = few_over honest lane_of 0 ls ds all in omega arith
