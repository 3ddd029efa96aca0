-- What is true of a game stays so.
use Rattle.std.proofs.Common.{◌≡◌, ◌≤◌, ℕ, Bool, List, length, map, set, Some, sym, ap, ◌∙◌, subst, length-set, inl, inr}
use Rattle.std.specs.Prelude.{All, IsTrue, slice_get, option_map}
use Rattle.std.specs.Global.{Box}
use Rattle.std.specs.Box.{box_value}
use Rattle.std.proofs.lemmas.Bool.{cases_eq}
use Rattle.std.proofs.lemmas.List.{map-set, length-map}
use Rattle.std.proofs.lemmas.Option.{slice_get-map, same_Some}
use Rattle.record_pages.specs.declared.layout.Layout.{Layout}
use Rattle.mover.specs.Lane.{LaneState}
use Rattle.recorded_lane.specs.declared.noted.Noted.{Noted}
use Rattle.recorded_lane.specs.Lane.{deeds_of, IsSound}
use Rattle.history_recorder.specs.declared.recorded_call.RecordedCall.{RecordedCall}
use Rattle.history_recorder.specs.Books.{Books, IsDoneBy, noted_of, lane_at}
use Rattle.history_recorder.specs.World.{IsSoundWorld}
use Rattle.history_recorder.specs.Game.{IsGame, IsWellKept, AreHonest, unboxed, world_of}
use Rattle.history_recorder.proofs.public_laws.Indexing.{set_here, set_elsewhere, all_set, all_then, at_so, map_has, set_nothing}
use Rattle.history_recorder.proofs.Booking.{GoesOn, noted_at}
use Rattle.std.proofs.lemmas.List.Elements.{All-map}

module _ {L : Type 0} (layout_of : L → Layout) (lane_is : L → ℕ) (honest : L → Bool) (calls_of : L → List Noted) (state : L → LaneState) (layout : Layout) (old new : Books) (on : GoesOn old new) where
  -- the lanes are as they were, and the books have the same calls
  pub game_books : (lanes : List L) → map noted_of new.lanes ≡ map noted_of old.lanes → IsGame layout_of lane_is honest calls_of state layout old lanes → IsGame layout_of lane_is honest calls_of state layout new lanes
  game_books lanes same kept = record {
    all = kept.all;
    layouts = kept.layouts;
    numbers = kept.numbers;
    kept = kept.kept;
    booked = on.kept;
    linked = same ∙ kept.linked;
  }

  -- one of them took a step
  pub game_step : (lanes : List L) (i : ℕ) (was is : L) → slice_get lanes i ≡ Some was → layout_of is ≡ layout_of was → lane_is is ≡ lane_is was → IsWellKept (layout_of is) (lane_is is) (honest is) (calls_of is) (state is) → map noted_of new.lanes ≡ set (map noted_of old.lanes) i (calls_of is) → IsGame layout_of lane_is honest calls_of state layout old lanes → IsGame layout_of lane_is honest calls_of state layout new (set lanes i is)
  game_step lanes i was is here same_layout same_lane well linked kept =
      let at : layout_of is ≡ layout = same_layout ∙ at_so (λ l. layout_of l ≡ layout) lanes i was kept.layouts here in
      record {
        all = length-set lanes i is ∙ kept.all;
        layouts = all_set (λ l. layout_of l ≡ layout) lanes i is at kept.layouts;
        numbers = λ j l there. elim (cases_eq j i) [
          | inl same ↦ ap lane_is (set_here lanes i is l (subst (λ k. slice_get (set lanes i is) k ≡ Some l) same there)) ∙ same_lane ∙ kept.numbers i was here ∙ sym same
          | inr other ↦ kept.numbers j l (set_elsewhere lanes i j is l other there)
        ];
        kept = all_set (λ l. IsWellKept layout (lane_is l) (honest l) (calls_of l) (state l)) lanes i is (subst (λ (a : Layout). IsWellKept a (lane_is is) (honest is) (calls_of is) (state is)) at well) kept.kept;
        booked = on.kept;
        linked = linked ∙ ap (λ ns. set ns i (calls_of is)) kept.linked ∙ sym (map-set calls_of lanes i is);
      }

  -- the same of lanes in boxes
  pub stepped_game : (boxes : List (Box L)) (i : ℕ) (b after : Box L) → slice_get (unboxed boxes) i ≡ Some (box_value b) → layout_of (box_value after) ≡ layout_of (box_value b) → lane_is (box_value after) ≡ lane_is (box_value b) → IsWellKept (layout_of (box_value after)) (lane_is (box_value after)) (honest (box_value after)) (calls_of (box_value after)) (state (box_value after)) → map noted_of new.lanes ≡ set (map noted_of old.lanes) i (calls_of (box_value after)) → IsGame layout_of lane_is honest calls_of state layout old (unboxed boxes) → IsGame layout_of lane_is honest calls_of state layout new (unboxed (set boxes i after))
  stepped_game boxes i b after here same_layout same_lane well linked kept =
      subst (IsGame layout_of lane_is honest calls_of state layout new) (sym (map-set (λ (x : Box L). box_value x) boxes i after)) (game_step (unboxed boxes) i (box_value b) (box_value after) here same_layout same_lane well linked kept)

-- a step leaves each device as honest as it was
pub stepped_honest : {L : Type 0} (honest : L → Bool) (boxes : List (Box L)) (i : ℕ) (b after : Box L) → slice_get (unboxed boxes) i ≡ Some (box_value b) → honest (box_value after) ≡ honest (box_value b) → AreHonest honest (unboxed boxes) → AreHonest honest (unboxed (set boxes i after))
stepped_honest {L} honest boxes i b after here same honests =
    subst (AreHonest honest) (sym (map-set (λ (x : Box L). box_value x) boxes i after)) (all_set (λ l. IsTrue (honest l)) (unboxed boxes) i (box_value after) (subst IsTrue (sym same) (at_so (λ l. IsTrue (honest l)) (unboxed boxes) i (box_value b) honests here)) honests)

module _ {L : Type 0} (layout_of : L → Layout) (lane_is : L → ℕ) (honest : L → Bool) (calls_of : L → List Noted) (state : L → LaneState) (layout : Layout) (books : Books) (lanes : List L) (kept : IsGame layout_of lane_is honest calls_of state layout books lanes) where
  -- there are as many lists of calls as lanes
  pub as_many : length books.lanes ≡ layout.lanes
  as_many = sym (length-map books.lanes noted_of) ∙ ap length kept.linked ∙ length-map lanes calls_of ∙ kept.all

  -- the calls of a lane that the books have
  pub booked_of : (i : ℕ) (l : L) → slice_get lanes i ≡ Some l → slice_get (map noted_of books.lanes) i ≡ Some (calls_of l)
  booked_of i l at = ap (λ ns. slice_get ns i) kept.linked ∙ slice_get-map calls_of lanes i ∙ ap (option_map calls_of) at

  -- the books have the calls that a lane recorded
  pub linked_at : (i : ℕ) (calls : List RecordedCall) (l : L) → slice_get books.lanes i ≡ Some calls → slice_get lanes i ≡ Some l → noted_of calls ≡ calls_of l
  linked_at i calls l there at = same_Some (noted_of calls) (calls_of l) (sym (slice_get-map noted_of books.lanes i ∙ ap (option_map noted_of) there) ∙ booked_of i l at)

  -- how many calls a lane recorded
  pub counted_at : (i : ℕ) (l : L) → slice_get lanes i ≡ Some l → length (lane_at books.lanes i) ≡ length (calls_of l)
  counted_at i l at = sym (length-map (lane_at books.lanes i) (λ (b : RecordedCall). b.noted)) ∙ ap length (noted_at books.lanes i (calls_of l) (booked_of i l at))

  -- no call of a lane was done above the number
  pub reached : (i : ℕ) (l : L) → slice_get lanes i ≡ Some l → All (λ (n : Noted). n.point ≤ books.number) (calls_of l)
  reached i l at =
      let had = map_has noted_of books.lanes i (calls_of l) (booked_of i l at) in
      let done = at_so (All (IsDoneBy books.number)) books.lanes i had.0 kept.booked.done had.1 in
      subst (All (λ (n : Noted). n.point ≤ books.number)) had.2 (All-map (λ (n : Noted). n.point ≤ books.number) (λ (b : RecordedCall). b.noted) had.0 (all_then (IsDoneBy books.number) (λ (b : RecordedCall). b.noted.point ≤ books.number) had.0 (λ b so. so.0) done))

  -- a background step records nothing
  pub still_linked : (i : ℕ) (l : L) (calls : List Noted) → slice_get lanes i ≡ Some l → calls ≡ calls_of l → map noted_of books.lanes ≡ set (map noted_of books.lanes) i calls
  still_linked i l calls at same = sym (set_nothing (map noted_of books.lanes) i calls (booked_of i l at ∙ ap Some (sym same)))

  -- if the devices are honest every lane is sound
  pub sound_world : AreHonest honest lanes → IsSoundWorld (world_of state books lanes)
  sound_world honests = λ i calls s there holds.
      let had = map_has state lanes i s holds in
      let l = had.0 in
      let well = at_so (λ l. IsWellKept layout (lane_is l) (honest l) (calls_of l) (state l)) lanes i l kept.kept had.1 in
      let sound = well.sound (at_so (λ l. IsTrue (honest l)) lanes i l honests had.1) in
      subst (λ ns. IsSound s (deeds_of ns)) (sym (linked_at i calls l there had.1)) (subst (λ st. IsSound st (deeds_of (calls_of l))) had.2 sound)
