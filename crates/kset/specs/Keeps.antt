-- What each call keeps that is lent a device, for the owner of the sets and of the device.
use Rattle.std.specs.Prelude.{◌≡◌, ℕ, Bool, List, Option, IsTrue}
use Rattle.kset.specs.Sets.{SetsState, set_count}
use Rattle.kset.specs.Pages.{AreSpelledOn}

-- There are as many sets; and if the device is honest, each set with a filter bit still has its page, if each had it
-- before.
pub record KeepsSets (size : ℕ) (is_honest : Bool) (was : ℕ → Option (List ℕ)) (old : SetsState) (is : ℕ → Option (List ℕ)) (new : SetsState) : Type 0 where
  pub sizes : set_count new ≡ set_count old
  pub spelled : IsTrue is_honest → AreSpelledOn size was old → AreSpelledOn size is new
