-- What a game ends in.
use Rattle.std.proofs.Common.{◌≡◌, ◌<◌, ◌≤◌, ◌+◌, ◌*◌, ℕ, Bool, List, [], ◌∷◌, length, get_or, map, Option, Some, None, sym, ap, ◌∙◌, refl, subst, arith}
use Rattle.std.specs.Prelude.{All, AllPairs, IfSome, IsTrue, slice_get}
use Rattle.std.specs.Option.{unwrap_or}
use Rattle.std.specs.List.{flat_map}
use Rattle.std.proofs.lemmas.List.{length-append, length-map}
use Rattle.std.proofs.lemmas.List.Elements.{All-head, All-tail, All-map}
use Rattle.std.proofs.lemmas.Option.{slice_get_within, slice_get-get_or}
use Rattle.record_pages.specs.declared.layout.Layout.{Layout}
use Rattle.certificate_checker.specs.declared.done.Done.{Done}
use Rattle.certificate_checker.specs.Latest.{IsLawful}
use Rattle.certificate_checker.specs.Lanes.{calls_of, deeds_done, IsLane, AreApart, PointsRise}
use Rattle.mover.specs.Lane.{LaneState}
use Rattle.recorded_lane.specs.declared.noted.Noted.{Noted}
use Rattle.recorded_lane.specs.Lane.{IsOfLane, deeds_of}
use Rattle.history_recorder.specs.declared.recorded_call.RecordedCall.{RecordedCall}
use Rattle.history_recorder.specs.Books.{Books, IsDoneBy, noted_of, closed, dones}
use Rattle.history_recorder.specs.Game.{IsGame, IsWellKept, AreHonest}
use Rattle.history_recorder.proofs.public_laws.Indexing.{all_then, at_so, map_has, pairs_by_index, all_by_index, pairs_map, pairs_back, all_back}
use Rattle.history_recorder.proofs.GameKept.{as_many, linked_at}

-- the end of a call is no earlier than its point
closes : (last : ℕ) (c : RecordedCall) → c.noted.point ≤ last → IfSome c.end (λ e. c.noted.point ≤ e) → c.noted.point ≤ (closed last c).call.end
closes last c below ended = from c.end ended where
  from : (o : Option ℕ) → IfSome o (λ e. c.noted.point ≤ e) → c.noted.point ≤ unwrap_or o last
  from None h = below
  from (Some e) h = h

deeds_closed : (last : ℕ) (calls : List RecordedCall) → deeds_done (map (closed last) calls) ≡ deeds_of (noted_of calls)
deeds_closed last [] = refl
deeds_closed last (c ∷ calls) = rw (deeds_closed last calls) refl

-- a list has an element at each index below its length
there : {X : Type 0} (xs : List X) (i : ℕ) → i < length xs → (x : X) × (slice_get xs i ≡ Some x)
there [] i within = absurd (omega arith)
there (x ∷ xs) i within = (get_or (x ∷ xs) i x, slice_get-get_or (x ∷ xs) i x within)

-- lanes of other numbers have other keys
apart : (layout : Layout) (i j : ℕ) (one other : List Done) → i < j → All (λ (d : Done). IsOfLane layout i d.call.key) one → All (λ (d : Done). IsOfLane layout j d.call.key) other → AreApart one other
apart layout i j one other less h g = λ k d lt m e within same.
    let same_lane : i ≡ j = sym (h k d lt) ∙ subst (λ key. IsOfLane layout j key) (sym same) (g m e within) in
    absurd (omega (arith, same_lane))

-- the calls of so many lanes of so many calls
count_all : (ls : List (List Done)) → All (λ l. length l ≤ 16777216) ls → length (flat_map calls_of ls) ≤ 16777216 * length ls
count_all [] h = omega arith
count_all (l ∷ ls) h =
    let more = length-append (calls_of l) (flat_map calls_of ls) in
    let its = length-map l (λ (d : Done). d.call) in
    let first = All-head (λ l. length l ≤ 16777216) l ls h in
    let rest = count_all ls (All-tail (λ l. length l ≤ 16777216) l ls h) in
    omega (arith, more, its, first, rest)

module _ {L : Type 0} (layout_of : L → Layout) (lane_is : L → ℕ) (honest : L → Bool) (calls_in : L → List Noted) (state : L → LaneState) (layout : Layout) (books : Books) (lanes : List L) (kept : IsGame layout_of lane_is honest calls_in state layout books lanes) where
  -- the recorded calls of each list of done calls, and its lane
  record Of (i : ℕ) (done : List Done) : Type 0 where
    pub calls : List RecordedCall
    pub is : map (closed (books.number + 1)) calls ≡ done
    pub done_by : All (IsDoneBy books.number) calls
    pub lane : L
    pub here : slice_get lanes i ≡ Some lane
    pub noted : noted_of calls ≡ calls_in lane
    pub well : IsWellKept layout i (honest lane) (calls_in lane) (state lane)

  of : (i : ℕ) (done : List Done) → slice_get (dones books) i ≡ Some done → Of i done
  of i done at =
      let had = map_has (λ (calls : List RecordedCall). map (closed (books.number + 1)) calls) books.lanes i done at in
      let within = slice_get_within books.lanes i had.0 had.1 in
      let many = as_many layout_of lane_is honest calls_in state layout books lanes kept in
      let all = kept.all in
      let some = there lanes i (omega (arith, within, many, all)) in
      record {
        calls = had.0;
        is = had.2;
        done_by = at_so (All (IsDoneBy books.number)) books.lanes i had.0 kept.booked.done had.1;
        lane = some.0;
        here = some.1;
        noted = linked_at layout_of lane_is honest calls_in state layout books lanes kept i had.0 some.0 had.1 some.1;
        well = subst (λ n. IsWellKept layout n (honest some.0) (calls_in some.0) (state some.0)) (kept.numbers i some.0 some.1) (at_so (λ l. IsWellKept layout (lane_is l) (honest l) (calls_in l) (state l)) lanes i some.0 kept.kept some.1);
      }

  rises : (i : ℕ) (done : List Done) → Of i done → PointsRise done
  rises i done o =
      subst PointsRise o.is (pairs_map (λ (a b : Done). a.point < b.point) (closed (books.number + 1)) o.calls (pairs_back (λ (a b : Noted). a.point < b.point) (λ (c : RecordedCall). c.noted) o.calls (subst (AllPairs (λ (a b : Noted). a.point < b.point)) (sym o.noted) o.well.points)))

  pub ends_rise : All PointsRise (dones books)
  ends_rise = all_by_index PointsRise (dones books) (λ i done at. rises i done (of i done at))

  short : (i : ℕ) (done : List Done) → Of i done → length done ≤ 16777216
  short i done o =
      let a = ap length o.is in
      let b = length-map o.calls (closed (books.number + 1)) in
      let d = length-map o.calls (λ (c : RecordedCall). c.noted) in
      let e = ap length o.noted in
      let few = o.well.few in
      omega (arith, a, b, d, e, few)

  pub ends_few : layout.lanes ≤ 16 → length (flat_map calls_of (dones books)) ≤ 268435456
  ends_few bounded =
      let each = all_by_index (λ (l : List Done). length l ≤ 16777216) (dones books) (λ i done at. short i done (of i done at)) in
      let total = count_all (dones books) each in
      let lists = length-map books.lanes (λ (calls : List RecordedCall). map (closed (books.number + 1)) calls) in
      let many = as_many layout_of lane_is honest calls_in state layout books lanes kept in
      omega (arith, total, lists, many, bounded)

  keys : (i : ℕ) (done : List Done) → Of i done → All (λ (d : Done). IsOfLane layout i d.call.key) done
  keys i done o = subst (All (λ (d : Done). IsOfLane layout i d.call.key)) o.is (All-map (λ (d : Done). IsOfLane layout i d.call.key) (closed (books.number + 1)) o.calls (all_back (λ (m : Noted). IsOfLane layout i m.key) (λ (c : RecordedCall). c.noted) o.calls (subst (All (λ (m : Noted). IsOfLane layout i m.key)) (sym o.noted) o.well.its)))

  pub ends_apart : AllPairs AreApart (dones books)
  ends_apart = pairs_by_index AreApart (dones books) (λ i j one other less at there. apart layout i j one other less (keys i one (of i one at)) (keys j other (of j other there)))

  is_lane : (i : ℕ) (done : List Done) → AreHonest honest lanes → Of i done → IsLane done
  is_lane i done honests o =
      let n = books.number in
      let h = at_so (λ l. IsTrue (honest l)) lanes i o.lane honests o.here in
      record {
        points_rise = rises i done o;
        started = subst (All (λ (d : Done). d.call.start < d.point)) o.is (All-map (λ (d : Done). d.call.start < d.point) (closed (n + 1)) o.calls (all_back (λ (m : Noted). m.start < m.point) (λ (c : RecordedCall). c.noted) o.calls (subst (All (λ (m : Noted). m.start < m.point)) (sym o.noted) o.well.starts)));
        ended = subst (All (λ (d : Done). d.point ≤ d.call.end)) o.is (All-map (λ (d : Done). d.point ≤ d.call.end) (closed (n + 1)) o.calls (all_then (IsDoneBy n) (λ (c : RecordedCall). c.noted.point ≤ (closed (n + 1) c).call.end) o.calls (λ c by. closes (n + 1) c (let below = by.0 in omega (arith, below)) by.1) o.done_by));
        lawful = subst (λ ds. IsLawful (deeds_done ds)) o.is (subst IsLawful (sym (deeds_closed (n + 1) o.calls ∙ ap deeds_of o.noted)) (o.well.lawful h));
      }

  pub ends_lanes : AreHonest honest lanes → All IsLane (dones books)
  ends_lanes honests = all_by_index IsLane (dones books) (λ i done at. is_lane i done honests (of i done at))
