-- What becomes of a copy that is put back, by what the lane has.
use Rattle.std.proofs.Common.{◌≡◌, ◌≢◌, ◌<◌, ◌≤◌, ℕ, Bool, true, false, cond, Some, refl, sym, ap, subst, ◌∙◌}
use Rattle.std.specs.Prelude.{◌↔◌, nat_lt, length, slice_get}
use Rattle.std.specs.Option.{option_map}
use Rattle.std.proofs.lemmas.Bool.{lt-ltb, le-ltb, ltb-true, false≢true}
use Rattle.record_pages.specs.Recs.{Rec}
use Rattle.record_pages.specs.Sizes.{object_size, room}
use Rattle.record_pages.specs.declared.pushed.Pushed.{Pushed}
use Rattle.record_pages.specs.declared.pushed.Pushed.TheVariants as pushes
use Rattle.memory_cache.specs.declared.pair.Pair.{Pair}
use Rattle.klog_index.specs.declared.entry.Entry.{Entry}
use Rattle.klog.specs.Append.{entering, is_full}
use Rattle.mover.specs.Lane.{LaneState}
use Rattle.mover.specs.Get.{Step}
use Rattle.mover.specs.Put.{IsStep, lane_appended}
use Rattle.mover.specs.PutBack.{may_show, put_back_step, fate_step}
use Rattle.mover.specs.declared.copy_fate.CopyFate.{CopyFate}
use Rattle.mover.specs.declared.copy_fate.CopyFate.TheVariants as fate

module _ (size : ℕ) (p : Pair) (lane : LaneState) where
  abbrev r : Rec
  r = entering p.key p.value

  -- the step by whether flash may show the key, the copy is too large, the index has an entry left, and the log no place
  abbrev by_tests : Bool → Bool → Bool → Bool → Step CopyFate
  by_tests known large listed full =
      cond {A = Step CopyFate} known (record { reply = fate.Known; lane = lane }) (cond large (record { reply = fate.TooLarge; lane = lane })
      (fate_step (cond {A = Step Pushed} listed (cond full (record { reply = pushes.Full; lane = lane }) (record { reply = pushes.Logged; lane = lane_appended size lane r })) (record { reply = pushes.IndexFull; lane = lane }))))

  -- what is so of each step by its tests is so of the step
  by_each : (P : Bool → Bool → Bool → Bool → Step CopyFate → Type 0) → ((known large listed full : Bool) → P known large listed full (by_tests known large listed full)) →
      P (may_show p.key lane) (nat_lt (room size) (object_size p.key p.value.value)) (nat_lt (length lane.log.entries) lane.log.shape.limit) (is_full size lane.log r) (put_back_step size p lane)
  by_each P each = each (may_show p.key lane) (nat_lt (room size) (object_size p.key p.value.value)) (nat_lt (length lane.log.entries) lane.log.shape.limit) (is_full size lane.log r)

  -- it is dropped exactly if flash may show its key
  pub dropped : (reply : CopyFate) (new : LaneState) → IsStep (put_back_step size p lane) reply new → (reply ≡ fate.Known) ↔ (may_show p.key lane ≡ true)
  dropped reply new is =
      subst (λ (x : CopyFate). (x ≡ fate.Known) ↔ (may_show p.key lane ≡ true)) (sym is.0) (by_each (λ known large listed full (s : Step CopyFate). (s.reply ≡ fate.Known) ↔ (known ≡ true)) each)
    where
      each : (known large listed full : Bool) → ((by_tests known large listed full).reply ≡ fate.Known) ↔ (known ≡ true)
      each true large listed full = (λ h. refl, λ h. refl)
      each false true listed full = (λ h. absurd cc, λ h. absurd (false≢true h))
      each false false false full = (λ h. absurd cc, λ h. absurd (false≢true h))
      each false false true true = (λ h. absurd cc, λ h. absurd (false≢true h))
      each false false true false = (λ h. absurd cc, λ h. absurd (false≢true h))

  -- what does not enter the log leaves the lane
  pub stays : (reply : CopyFate) (new : LaneState) → IsStep (put_back_step size p lane) reply new → reply ≢ fate.Logged → new ≡ lane
  stays reply new is other = is.1 ∙ by_each (λ known large listed full (s : Step CopyFate). s.reply ≢ fate.Logged → s.lane ≡ lane) each (λ same. other (is.0 ∙ same))
    where
      each : (known large listed full : Bool) → (by_tests known large listed full).reply ≢ fate.Logged → (by_tests known large listed full).lane ≡ lane
      each true large listed full h = refl
      each false true listed full h = refl
      each false false false full h = refl
      each false false true true h = refl
      each false false true false h = absurd (h refl)

  -- it enters the log if nothing is in its way
  pub enters : (reply : CopyFate) (new : LaneState) → IsStep (put_back_step size p lane) reply new → may_show p.key lane ≡ false → object_size p.key p.value.value ≤ room size → length lane.log.entries < lane.log.shape.limit → is_full size lane.log r ≡ false → reply ≡ fate.Logged
  enters reply new is unknown small listed free =
      is.0 ∙ by_each (λ known large listed full (s : Step CopyFate). known ≡ false → large ≡ false → listed ≡ true → full ≡ false → s.reply ≡ fate.Logged) each unknown (le-ltb _ _ small) (lt-ltb _ _ listed) free
    where
      each : (known large listed full : Bool) → known ≡ false → large ≡ false → listed ≡ true → full ≡ false → (by_tests known large listed full).reply ≡ fate.Logged
      each true large listed full a b c d = absurd (false≢true (sym a))
      each false true listed full a b c d = absurd (false≢true (sym b))
      each false false false full a b c d = absurd (false≢true c)
      each false false true true a b c d = absurd (false≢true (sym d))
      each false false true false a b c d = refl

  -- what entered is the newest, and the log had an entry and a place left
  pub record Entered (new : LaneState) (listed full : Bool) : Type 0 where
    pub newest : option_map (λ (x : Entry × Rec). x.1) (slice_get new.live 0) ≡ Some r
    pub entry : listed ≡ true
    pub place : full ≡ false

  pub entered : (reply : CopyFate) (new : LaneState) → IsStep (put_back_step size p lane) reply new → reply ≡ fate.Logged → Entered new (nat_lt (length lane.log.entries) lane.log.shape.limit) (is_full size lane.log r)
  entered reply new is logged =
      subst (λ (l : LaneState). Entered l (nat_lt (length lane.log.entries) lane.log.shape.limit) (is_full size lane.log r)) (sym is.1)
      (by_each (λ known large listed full (s : Step CopyFate). s.reply ≡ fate.Logged → Entered s.lane listed full) each (sym is.0 ∙ logged))
    where
      each : (known large listed full : Bool) → (by_tests known large listed full).reply ≡ fate.Logged → Entered (by_tests known large listed full).lane listed full
      each true large listed full h = absurd cc
      each false true listed full h = absurd cc
      each false false false full h = absurd cc
      each false false true true h = absurd cc
      each false false true false h = record { newest = refl; entry = refl; place = refl }

  -- an entry was left, as numbers
  pub entry_left : nat_lt (length lane.log.entries) lane.log.shape.limit ≡ true → length lane.log.entries < lane.log.shape.limit
  entry_left is = ltb-true _ _ is
