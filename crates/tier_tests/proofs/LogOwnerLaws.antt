-- An owner of a log and its device, call by call.
use Rattle.std.proofs.Common.{◌≡◌, ◌≤◌, ◌+◌, ◌*◌, ℕ, List, Option, Bool, sym, subst, ◌∙◌}
use Rattle.std.specs.Prelude.{IsTrue}
use Rattle.record_pages.specs.declared.layout.Layout.{Layout}
use Rattle.klog.specs.Log.{Shape}
use Rattle.klog.specs.Shown.{IsSpelledOn}
use Rattle.tier_tests.specs.LogOwner.{OwnerState, IsOwner}

-- a call that keeps the shape, the pages, the honesty and the spelling keeps an owner
pub kept : {D : Type 0} (size : ℕ) (layout : Layout) (pages : D → ℕ) (honest : D → Bool) (held : D → ℕ → Option (List ℕ)) (old new : OwnerState D) → IsOwner size layout pages honest held old →
    new.log.shape ≡ old.log.shape → pages new.device ≡ pages old.device → honest new.device ≡ honest old.device →
    (IsTrue (honest old.device) → IsSpelledOn size (held old.device) old.log → IsSpelledOn size (held new.device) new.log) → IsOwner size layout pages honest held new
kept size layout pages honest held old new was same_shape same_pages same_honesty spelled = record {
  shape = same_shape ∙ was.shape;
  room = subst (λ (s : Shape). s.sets + s.segments * s.segment_pages ≤ pages new.device) (sym same_shape)
      (subst (λ n. old.log.shape.sets + old.log.shape.segments * old.log.shape.segment_pages ≤ n) (sym same_pages) was.room);
  spelled = λ is. let before : IsTrue (honest old.device) = sym same_honesty ∙ is in spelled before (was.spelled before);
}
