-- Each call of a lane keeps what is true of its calls; and what its store is, the lane is.
use Rattle.std.proofs.Common.{◌≡◌, ◌<◌, ◌-◌, ℕ, take, Bool, List, [], ◌∷◌, ◌++◌, length, Option, sym, ap, ◌∙◌, refl, subst, arith}
use Rattle.std.specs.Prelude.{All}
use Rattle.std.proofs.lemmas.List.{map-append, length-append}
use Rattle.std.proofs.lemmas.List.Elements.{All-push}
use Rattle.std.proofs.lemmas.List.Quantifiers.{all_pairs_push}
use Rattle.record_pages.specs.declared.layout.Layout.{Layout}
use Rattle.certificate_checker.specs.Deeds.{Deed}
use Rattle.certificate_checker.specs.Latest.{IsLawful}
use Rattle.mover.specs.Store.{StoreState}
use Rattle.mover.specs.Lane.{lane_of}
use Rattle.deeds.specs.Asked.{IsServed}
use Rattle.recorded_lane.specs.declared.noted.Noted.{Noted}
use Rattle.recorded_lane.specs.Lane.{Lane, deed_noted, IsOfLane, IsSound, IsNoted, IsRecorded, max_calls}

-- a lane that was just opened and recorded nothing
pub noted_opened : {D : Type 0} (store : StoreState D) (layout : Layout) (lane : ℕ) (calls : List Noted) (deeds : List Deed) → lane < layout.lanes → store.layout ≡ layout → calls ≡ [] → deeds ≡ [] → IsNoted (record { store = store; lane = lane; calls = calls }) deeds
noted_opened store layout lane calls deeds below same none nothing = rw (none, nothing) (record {
  number = subst (λ (l : Layout). lane < l.lanes) (sym same) below;
  keys = λ k d within. absurd (omega (arith, within));
  starts = λ k d within. absurd (omega (arith, within));
  points = λ i j d less within. absurd (omega (arith, within));
  few = omega arith;
  its_deeds = refl;
})

-- the calls of a lane after one more
pub lane_more : {D : Type 0} (store : StoreState D) (inside now : Lane D) (calls : List Noted) (n : Noted) → inside ≡ now → calls ≡ inside.calls ++ n ∷ [] → record { store = store; lane = inside.lane; calls = calls } ≡ record now { store = store; calls = now.calls ++ n ∷ [] }
lane_more {D} store inside now calls n is more = rw more (ap (λ (l : Lane D). record l { store = store; calls = l.calls ++ n ∷ [] }) is)

-- a record whose last call was taken off again
without_last : (old : List Noted) (n : Noted) → take (length old) (old ++ n ∷ []) ≡ old
without_last [] n = refl
without_last (m ∷ old) n = ap (λ (ns : List Noted). m ∷ ns) (without_last old n)

pub dropped : (calls old more : List Noted) (n : Noted) → more ≡ old ++ n ∷ [] → calls ≡ take (length more - 1) more → calls ≡ old
dropped calls old more n is less =
    let count : length (old ++ n ∷ []) - 1 ≡ length old = omega (arith, length-append old (n ∷ [])) in
    less ∙ ap (λ (ns : List Noted). take (length ns - 1) ns) is ∙ ap (λ (k : ℕ). take k (old ++ n ∷ [])) count ∙ without_last old n

module _ {D : Type 0} (lane : Lane D) (deeds : List Deed) (noted : IsNoted lane deeds) where
  -- the lane whose store was served so
  pub recorded : (honest : D → Bool) (held : D → ℕ → Option (List ℕ)) → IsServed honest held (record { store = lane.store; deeds = deeds }) → IsRecorded honest held lane
  recorded honest held served = record {
    number = noted.number;
    keys = noted.keys;
    starts = noted.starts;
    points = noted.points;
    few = noted.few;
    order = served.order;
    sound = λ is. subst (IsSound (lane_of held lane.store)) noted.its_deeds (served.sound is);
    lawful = λ is. subst IsLawful noted.its_deeds (served.lawful is);
  }

  -- after a step that is no call
  pub noted_step : (new : StoreState D) (calls : List Noted) (after : List Deed) → new.layout ≡ lane.store.layout → calls ≡ lane.calls → after ≡ deeds → IsNoted (record { store = new; lane = lane.lane; calls = calls }) after
  noted_step new calls after layout same stay = rw same (record {
    number = subst (λ (l : Layout). lane.lane < l.lanes) (sym layout) noted.number;
    keys = subst (λ (l : Layout). All (λ (n : Noted). IsOfLane l lane.lane n.key) lane.calls) (sym layout) noted.keys;
    starts = noted.starts;
    points = noted.points;
    few = noted.few;
    its_deeds = stay ∙ noted.its_deeds;
  })

  -- after one call more
  pub noted_more : (n : Noted) (new : StoreState D) (calls : List Noted) (after : List Deed) → calls ≡ lane.calls ++ n ∷ [] → after ≡ deeds ++ deed_noted n ∷ [] → new.layout ≡ lane.store.layout → n.start < n.point → All (λ (m : Noted). m.point < n.point) lane.calls → IsOfLane lane.store.layout lane.lane n.key → length lane.calls < max_calls → IsNoted (record { store = new; lane = lane.lane; calls = calls }) after
  noted_more n new calls after more longer layout start rises own room = rw more (record {
    number = subst (λ (l : Layout). lane.lane < l.lanes) (sym layout) noted.number;
    keys = subst (λ (l : Layout). All (λ (x : Noted). IsOfLane l lane.lane x.key) (lane.calls ++ n ∷ [])) (sym layout) (All-push (λ (x : Noted). IsOfLane lane.store.layout lane.lane x.key) lane.calls n noted.keys own);
    starts = All-push (λ (x : Noted). x.start < x.point) lane.calls n noted.starts start;
    points = all_pairs_push (λ (x y : Noted). x.point < y.point) lane.calls n noted.points rises;
    few = omega (arith, length-append lane.calls (n ∷ []));
    its_deeds = longer ∙ ap (λ ds. ds ++ deed_noted n ∷ []) noted.its_deeds ∙ sym (map-append deed_noted lane.calls (n ∷ []));
  })
