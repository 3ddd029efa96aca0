-- Worlds that were just opened.
use Rattle.std.proofs.Common.{◌≡◌, ◌+◌, ℕ, zero, suc, Bool, List, [], ◌∷◌, ◌++◌, length, map, replicate, Option, Some, None, sym, ap, ◌∙◌, refl, subst, arith, inl, inr}
use Rattle.std.specs.Prelude.{◌⊎◌, All, IsTrue, slice_get}
use Rattle.std.specs.Global.{Box}
use Rattle.std.specs.Box.{box_value}
use Rattle.std.proofs.lemmas.List.{length-map, length-append, map-append}
use Rattle.std.proofs.lemmas.List.Elements.{All-head, All-tail, All-push, All-cons}
use Rattle.std.proofs.lemmas.Option.{same_Some}
use Rattle.record_pages.specs.declared.layout.Layout.{Layout}
use Rattle.trace_file.specs.declared.call.Call.{Call}
use Rattle.certificate_checker.specs.Acceptance.{IsAccepted}
use Rattle.certificate_checker.specs.Lanes.{IsLaidOut}
use Rattle.mover.specs.Lane.{lane_of}
use Rattle.mover.specs.Store.{opening}
use Rattle.mover.specs.Laws.{opening_lane as opening_state}
use Rattle.recorded_lane.specs.Lane.{Lane, IsRecorded}
use Rattle.history_recorder.specs.declared.event.Event.{Event}
use Rattle.history_recorder.specs.declared.reply.Reply.{Reply}
use Rattle.history_recorder.specs.Books.{Books, opening_books, noted_of, books_after, dones}
use Rattle.history_recorder.specs.World.{World, IsSoundRun}
use Rattle.history_recorder.specs.Game.{IsGame, IsWellKept, AreHonest, SoundRunTo, unboxed, world_of, layout_in, honest_in, state_in}
use Rattle.history_recorder.specs.Opened.{Opened, AreOpened, AreOpenedOver, AreTheLanes, opening_lane, opening_world, devices_of}
use Rattle.history_recorder.proofs.Booking.{opening_kept}
use Rattle.history_recorder.proofs.public_laws.Indexing.{all_by_index, at_so}
use Rattle.history_recorder.proofs.RunsKept.{accepted_runs}

-- an element of a list and one more is one of the list, or the one more
last_or : {X : Type 0} (xs : List X) (x : X) (i : ℕ) (y : X) → slice_get (xs ++ x ∷ []) i ≡ Some y → (slice_get xs i ≡ Some y) ⊎ ((i ≡ length xs) × (x ≡ y))
last_or [] x zero y e = inr (refl, same_Some x y e)
last_or [] x (suc i) y e = let no : None ≡ Some y = e in cc
last_or (z ∷ xs) x zero y e = inl e
last_or (z ∷ xs) x (suc i) y e = elim (last_or xs x i y e) [ inl within ↦ inl within | inr last ↦ inr (ap suc last.0, last.1) ]

module _ {D : Type 0} (honest : D → Bool) (held : D → ℕ → Option (List ℕ)) (layout : Layout) where
  pub none_opened : AreOpenedOver honest held layout 0 [] []
  none_opened = record {
    over = refl;
    many = refl;
    opened = record {
      each = λ i l at. let no : None ≡ Some l = at in cc;
      recorded = λ k d lt. absurd (omega arith);
    };
  }

  -- one lane more was opened
  pub more_opened : (number : ℕ) (devices : List D) (boxes : List (Box (Lane D))) (b : Box (Lane D)) (device : D) → AreOpenedOver honest held layout number devices boxes → box_value b ≡ opening_lane layout number device → IsRecorded honest held (box_value b) → AreOpenedOver honest held layout (number + 1) (devices ++ device ∷ []) (boxes ++ b ∷ [])
  more_opened number devices boxes b device so is recorded =
      let lanes : unboxed (boxes ++ b ∷ []) ≡ unboxed boxes ++ box_value b ∷ [] = map-append (λ (x : Box (Lane D)). box_value x) boxes (b ∷ []) in
      let lengths = length-map boxes (λ (x : Box (Lane D)). box_value x) in
      let its : (box_value b).store.device ≡ device = ap (λ (l : Lane D). l.store.device) is in
      record {
        over = map-append (λ (x : Box (Lane D)). (box_value x).store.device) boxes (b ∷ []) ∙ ap (λ ds. ds ++ (box_value b).store.device ∷ []) so.over ∙ ap (λ d. devices ++ d ∷ []) its;
        many = let more = length-append boxes (b ∷ []) in let many = so.many in omega (arith, more, many);
        opened = subst (AreOpened honest held layout) (sym lanes) (record {
          each = λ i l at. elim (last_or (unboxed boxes) (box_value b) i l at) [
            | inl before ↦ so.opened.each i l before
            | inr last ↦
                let there : i ≡ number = last.0 ∙ lengths ∙ sym so.many in
                let here : box_value b ≡ opening_lane layout number (box_value b).store.device = is ∙ ap (opening_lane layout number) (sym its) in
                subst (λ n. l ≡ opening_lane layout n l.store.device) (sym there) (subst (λ (m : Lane D). m ≡ opening_lane layout number m.store.device) last.1 here)
          ];
          recorded = All-push (IsRecorded honest held) (unboxed boxes) (box_value b) so.opened.recorded recorded;
        });
      }

  module _ (lanes : List (Lane D)) (opened : AreTheLanes honest held layout lanes) where
    as_opened : All (λ (l : Lane D). l.store ≡ opening layout l.store.device) lanes
    as_opened = all_by_index (λ (l : Lane D). l.store ≡ opening layout l.store.device) lanes (λ i l at. ap (λ (m : Lane D). m.store) (opened.opened.each i l at))

    -- a world as it begins is that of a run
    pub opened_game : (callers : ℕ) → IsGame layout_in (λ (l : Lane D). l.lane) (honest_in honest) (λ (l : Lane D). l.calls) (state_in held) layout (opening_books layout.lanes callers) lanes
    opened_game callers = record {
      all = opened.all;
      layouts = all_by_index (λ (l : Lane D). l.store.layout ≡ layout) lanes (λ i l at. ap (λ (m : Lane D). m.store.layout) (opened.opened.each i l at));
      numbers = λ i l at. ap (λ (m : Lane D). m.lane) (opened.opened.each i l at);
      kept = all_by_index (λ (l : Lane D). IsWellKept layout l.lane (honest l.store.device) l.calls (lane_of held l.store)) lanes (λ i l at. well i l at);
      booked = opening_kept layout.lanes callers;
      linked = empties layout.lanes ∙ ap (λ n. replicate n []) (sym opened.all) ∙ sym (all_empty lanes (all_by_index (λ (l : Lane D). l.calls ≡ []) lanes (λ i l at. ap (λ (m : Lane D). m.calls) (opened.opened.each i l at))));
    } where
      empties : (n : ℕ) → map noted_of (replicate n []) ≡ replicate n []
      empties zero = refl
      empties (suc n) = ap (λ ns. [] ∷ ns) (empties n)

      all_empty : (ls : List (Lane D)) → All (λ (l : Lane D). l.calls ≡ []) ls → map (λ (l : Lane D). l.calls) ls ≡ replicate (length ls) []
      all_empty [] h = refl
      all_empty (l ∷ ls) h = ap (λ c. c ∷ map (λ (m : Lane D). m.calls) ls) (All-head (λ (m : Lane D). m.calls ≡ []) l ls h) ∙ ap (λ cs. [] ∷ cs) (all_empty ls (All-tail (λ (m : Lane D). m.calls ≡ []) l ls h))

      well : (i : ℕ) (l : Lane D) → slice_get lanes i ≡ Some l → IsWellKept layout l.lane (honest l.store.device) l.calls (lane_of held l.store)
      well i l at =
          let r = at_so (IsRecorded honest held) lanes i l opened.opened.recorded at in
          subst (λ a. IsWellKept a l.lane (honest l.store.device) l.calls (lane_of held l.store)) (ap (λ (m : Lane D). m.store.layout) (opened.opened.each i l at)) (record { starts = r.starts; points = r.points; few = r.few; its = r.keys; lawful = r.lawful; sound = r.sound })

-- the world of lanes that were just opened
states_opened : {D : Type 0} (held : D → ℕ → Option (List ℕ)) (layout : Layout) (boxes : List (Box (Lane D))) → All (λ (l : Lane D). l.store ≡ opening layout l.store.device) (unboxed boxes) → map (state_in held) (unboxed boxes) ≡ map (opening_state layout) (map held (devices_of boxes))
states_opened held layout [] h = refl
states_opened {D} held layout (b ∷ boxes) h =
    ap (λ s. s ∷ map (state_in held) (unboxed boxes)) (ap (lane_of held) (All-head (λ (l : Lane D). l.store ≡ opening layout l.store.device) (box_value b) (unboxed boxes) h))
    ∙ ap (λ ss. opening_state layout (held (box_value b).store.device) ∷ ss) (states_opened held layout boxes (All-tail (λ (l : Lane D). l.store ≡ opening layout l.store.device) (box_value b) (unboxed boxes) h))

pub world_opened : {D : Type 0} (honest : D → Bool) (held : D → ℕ → Option (List ℕ)) (layout : Layout) (callers : ℕ) (boxes : List (Box (Lane D))) → AreTheLanes honest held layout (unboxed boxes) → world_of (state_in held) (opening_books layout.lanes callers) (unboxed boxes) ≡ opening_world held (record { layout = layout; devices = devices_of boxes; callers = callers })
world_opened honest held layout callers boxes opened =
    ap (λ ss. record { books = opening_books layout.lanes callers; states = ss }) (states_opened held layout boxes (as_opened honest held layout (unboxed boxes) opened))

-- honest devices are those of honest lanes
pub honest_lanes : {D : Type 0} (honest : D → Bool) (boxes : List (Box (Lane D))) → All (λ d. IsTrue (honest d)) (devices_of boxes) → AreHonest (honest_in honest) (unboxed boxes)
honest_lanes honest [] h = λ k d lt. absurd (omega arith)
honest_lanes {D} honest (b ∷ boxes) h = All-cons (λ (l : Lane D). IsTrue (honest l.store.device)) (box_value b) (unboxed boxes) (All-head (λ d. IsTrue (honest d)) (box_value b).store.device (devices_of boxes) h) (honest_lanes honest boxes (All-tail (λ d. IsTrue (honest d)) (box_value b).store.device (devices_of boxes) h))

-- what was played from a world that was just opened
module _ {D : Type 0} (honest : D → Bool) (held : D → ℕ → Option (List ℕ)) (w : Opened D) (layout : Layout) (callers : ℕ) (boxes game : List (Box (Lane D))) (view : record { layout = layout; devices = devices_of boxes; callers = callers } ≡ w) (same : game ≡ boxes) where
  pub honest_game : All (λ d. IsTrue (honest d)) w.devices → AreHonest (honest_in honest) (unboxed game)
  honest_game all = subst (λ bs. AreHonest (honest_in honest) (unboxed bs)) (sym same) (honest_lanes honest boxes (subst (λ (x : Opened D). All (λ d. IsTrue (honest d)) x.devices) (sym view) all))

  pub run_opened : (size : ℕ) (played : Layout) (books : Books) (es : List Event) (rs : List Reply) (end : World) → AreTheLanes honest held layout (unboxed boxes) → played ≡ layout → books ≡ opening_books layout.lanes callers → (AreHonest (honest_in honest) (unboxed game) → SoundRunTo size played (world_of (state_in held) books (unboxed game)) es rs end) → All (λ d. IsTrue (honest d)) w.devices → IsSoundRun size w.layout (opening_world held w) es rs
  run_opened size played books es rs end opened is_layout is_books run all =
      let opening_is : world_of (state_in held) books (unboxed game) ≡ opening_world held (record { layout = layout; devices = devices_of boxes; callers = callers }) =
      ap (λ b. world_of (state_in held) b (unboxed game)) is_books ∙ ap (λ bs. world_of (state_in held) (opening_books layout.lanes callers) (unboxed bs)) same ∙ world_opened honest held layout callers boxes opened in
      let a = run (honest_game all) in
      let r : IsSoundRun size played (world_of (state_in held) books (unboxed game)) es rs = record { worlds = a.worlds; run = a.run; sound = a.sound } in
      subst (λ (x : Opened D). IsSoundRun size x.layout (opening_world held x) es rs) view (subst (λ l. IsSoundRun size l (opening_world held (record { layout = layout; devices = devices_of boxes; callers = callers })) es rs) is_layout (subst (λ s. IsSoundRun size played s es rs) opening_is r))

  -- a run over them has one device for each lane, and so its history is accepted as it is laid out
  pub accepted_opened : (size : ℕ) (played : Layout) (books end : Books) (es : List Event) (rs : List Reply) (history : List Call) (certificate : List ℕ) → AreTheLanes honest held layout (unboxed boxes) → played ≡ layout → books ≡ opening_books layout.lanes callers → IsSoundRun size w.layout (opening_world held w) es rs → end ≡ books_after played books es rs → IsLaidOut (dones end) history certificate → IsAccepted history certificate
  accepted_opened size played books end es rs history certificate opened is_layout is_books run is_end laid =
      let one_each : length (map held (devices_of boxes)) ≡ layout.lanes =
      length-map (devices_of boxes) held ∙ length-map boxes (λ (b : Box (Lane D)). (box_value b).store.device) ∙ sym (length-map boxes (λ (b : Box (Lane D)). box_value b)) ∙ opened.all in
      let at_end : end ≡ books_after layout (opening_books layout.lanes callers) es rs =
      is_end ∙ ap (λ l. books_after l books es rs) is_layout ∙ ap (λ b. books_after layout b es rs) is_books in
      let its = subst (λ (x : Opened D). IsSoundRun size x.layout (opening_world held x) es rs) (sym view) run in
      accepted_runs size layout callers (map held (devices_of boxes)) es rs its.worlds history certificate one_each its.run (subst (λ b. IsLaidOut (dones b) history certificate) at_end laid)
