-- An owner of sets and their device, call by call.
use Rattle.std.proofs.Common.{◌≡◌, ◌≤◌, ℕ, List, Option, Bool, sym, subst, ◌∙◌}
use Rattle.std.specs.Prelude.{IsTrue}
use Rattle.kset.specs.Sets.{set_count}
use Rattle.kset.specs.Pages.{AreSpelledOn}
use Rattle.tier_tests.specs.SetOwner.{OwnerState, IsOwner}

-- a call that keeps the sizes, the honesty and the pages of the sets keeps an owner
pub kept : {D : Type 0} (size count : ℕ) (pages : D → ℕ) (honest : D → Bool) (held : D → ℕ → Option (List ℕ)) (old new : OwnerState D) → IsOwner size count pages honest held old →
    set_count new.sets ≡ set_count old.sets → pages new.device ≡ pages old.device → honest new.device ≡ honest old.device →
    (IsTrue (honest old.device) → AreSpelledOn size (held old.device) old.sets → AreSpelledOn size (held new.device) new.sets) → IsOwner size count pages honest held new
kept size count pages honest held old new was sizes same_pages same_honesty spelled = record {
  counted = sizes ∙ was.counted;
  room = subst (λ n. count ≤ n) (sym same_pages) was.room;
  spelled = λ is. let before : IsTrue (honest old.device) = sym same_honesty ∙ is in spelled before (was.spelled before);
}
