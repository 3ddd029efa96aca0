-- What a copy that is put back shows.
use Rattle.std.proofs.Common.{◌≡◌, ℕ, Bool, true, false, cond, List, Some, None, Contains, inl, inr, ⊎_elim, refl, sym, ap, subst}
use Rattle.std.specs.Prelude.{nat_lt, length}
use Rattle.std.proofs.lemmas.Option.{none-some}
use Rattle.record_pages.specs.Recs.{Rec}
use Rattle.record_pages.specs.Sizes.{object_size, room}
use Rattle.record_pages.specs.declared.pushed.Pushed.{Pushed}
use Rattle.record_pages.specs.declared.pushed.Pushed.TheVariants.{Logged, Full, IndexFull}
use Rattle.memory_cache.specs.declared.pair.Pair.{Pair}
use Rattle.klog.specs.Append.{entering, is_full}
use Rattle.mover.specs.Flight.{Flight}
use Rattle.mover.specs.Lane.{LaneState}
use Rattle.mover.specs.Visible.{ShowsFrom}
use Rattle.mover.specs.Get.{Step}
use Rattle.mover.specs.Put.{lane_appended, append_step}
use Rattle.mover.specs.PutBack.{may_show, put_back_step, fate_step}
use Rattle.mover.specs.declared.copy_fate.CopyFate.{CopyFate}
use Rattle.mover.specs.declared.copy_fate.CopyFate.TheVariants as fate
use Rattle.mover.specs.Laws.{IsInOrder}
use Rattle.mover.proofs.OrderKept.{KeepsOrder, entered_kept}
use Rattle.mover.proofs.public_laws.Showing.{append_shows, held_still}

-- what is to enter the log leaves the moves in flight, and memory
append_leaves : (size : ℕ) (r : Rec) (lane : LaneState) → ((append_step size r lane).lane.flights ≡ lane.flights) × ((append_step size r lane).lane.memory ≡ lane.memory)
append_leaves size r lane = step (nat_lt (length lane.log.entries) lane.log.shape.limit) (is_full size lane.log r)
  where
    after : Bool → Bool → LaneState
    after a b = (cond {A = Step Pushed} a (cond b (record { reply = Full; lane = lane }) (record { reply = Logged; lane = lane_appended size lane r })) (record { reply = IndexFull; lane = lane })).lane

    step : (a b : Bool) → ((after a b).flights ≡ lane.flights) × ((after a b).memory ≡ lane.memory)
    step false b = (refl, refl)
    step true true = (refl, refl)
    step true false = (refl, refl)

module _ (size : ℕ) (p : Pair) (lane : LaneState) where
  abbrev entered : LaneState
  entered = (append_step size (entering p.key p.value) lane).lane

  stays : ShowsFrom None (Some p) lane lane
  stays q here = inl (here, λ is. none-some q.key is)

  enters : ShowsFrom None (Some p) lane entered
  enters q (inl visible) =
      ⊎_elim (λ it. inr (ap Some (sym it))) (λ was. inl (inl was, λ is. none-some q.key is)) (append_shows size lane (entering p.key p.value) q visible)
  enters q (inr held) =
      inl (inr (held_still lane entered q held (subst (λ (fs : List Flight). Contains fs held.its) (append_leaves size (entering p.key p.value) lane).0 held.flies)), λ is. none-some q.key is)

  -- the lane after a copy was put back, by what was found
  abbrev after : Bool → Bool → LaneState
  after known large =
      (cond {A = Step CopyFate} known (record { reply = fate.Known; lane = lane })
      (cond large (record { reply = fate.TooLarge; lane = lane }) (fate_step (append_step size (entering p.key p.value) lane)))).lane

  -- a copy that is put back shows its pair, and else what was shown
  pub put_back_alone : ShowsFrom None (Some p) lane (put_back_step size p lane).lane
  put_back_alone = step (may_show p.key lane) (nat_lt (room size) (object_size p.key p.value.value))
    where
      step : (known large : Bool) → ShowsFrom None (Some p) lane (after known large)
      step true large = stays
      step false true = stays
      step false false = enters

  -- and keeps a lane in order
  pub put_back_kept : IsInOrder lane → KeepsOrder lane (put_back_step size p lane).lane
  put_back_kept was = step (may_show p.key lane) (nat_lt (room size) (object_size p.key p.value.value))
    where
      step : (known large : Bool) → KeepsOrder lane (after known large)
      step true large = (refl, was)
      step false true = (refl, was)
      step false false = entered_kept lane was size (entering p.key p.value)

  -- nor does it change what is in memory
  pub put_back_remembers : (put_back_step size p lane).lane.memory ≡ lane.memory
  put_back_remembers = step (may_show p.key lane) (nat_lt (room size) (object_size p.key p.value.value))
    where
      step : (known large : Bool) → (after known large).memory ≡ lane.memory
      step true large = refl
      step false true = refl
      step false false = (append_leaves size (entering p.key p.value) lane).1
