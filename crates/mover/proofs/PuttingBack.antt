-- What is told of a copy that is put back is its step.
use Rattle.std.proofs.Common.{◌≡◌, ◌<◌, ℕ, Bool, true, false, refl, sym, ap, ◌∙◌}
use Rattle.std.specs.Prelude.{nat_lt}
use Rattle.std.proofs.lemmas.Bool.{lt-ltb, ltb-true}
use Rattle.record_pages.specs.Sizes.{object_size, room}
use Rattle.record_pages.specs.declared.pushed.Pushed.{Pushed}
use Rattle.set_hash.specs.declared.placed.Placed.{Placed}
use Rattle.memory_cache.specs.declared.pair.Pair.{Pair}
use Rattle.klog.specs.Append.{entering}
use Rattle.klog.specs.Shown.{place_in}
use Rattle.mover.specs.Lane.{LaneState}
use Rattle.mover.specs.Put.{append_step, IsStep}
use Rattle.mover.specs.PutBack.{may_show_at, may_show, put_back_step, fate_of}
use Rattle.mover.specs.declared.copy_fate.CopyFate.TheVariants as fate

module _ (size : ℕ) (p : Pair) (lane : LaneState) (at : Placed) (placed : at ≡ place_in lane.log.shape p.key) where
  seen : (b : Bool) → may_show_at at lane ≡ b → may_show p.key lane ≡ b
  seen b is = ap (λ (x : Placed). may_show_at x lane) (sym placed) ∙ is

  -- flash may show its key
  pub known_told : may_show_at at lane ≡ true → IsStep (put_back_step size p lane) fate.Known lane
  known_told is = rw (seen true is) (refl, refl)

  -- it fits on no page
  pub large_told : may_show_at at lane ≡ false → room size < object_size p.key p.value.value → IsStep (put_back_step size p lane) fate.TooLarge lane
  large_told is large = rw (seen false is, lt-ltb (room size) (object_size p.key p.value.value) large) (refl, refl)

  fits : ¬ (room size < object_size p.key p.value.value) → nat_lt (room size) (object_size p.key p.value.value) ≡ false
  fits small = step (nat_lt (room size) (object_size p.key p.value.value)) refl
    where
      step : (b : Bool) → nat_lt (room size) (object_size p.key p.value.value) ≡ b → nat_lt (room size) (object_size p.key p.value.value) ≡ false
      step true is = absurd (small (ltb-true _ _ is))
      step false is = is

  -- it is to enter the log
  pub entered_told : may_show_at at lane ≡ false → ¬ (room size < object_size p.key p.value.value) → (pushed : Pushed) (new : LaneState) → IsStep (append_step size (entering p.key p.value) lane) pushed new →
      IsStep (put_back_step size p lane) (fate_of pushed) new
  entered_told is small pushed new step = rw (seen false is, fits small) (ap fate_of step.0, step.1)
