-- How long the answer of a step with a lane may be.
use Rattle.std.specs.Prelude.{◌≡◌, ◌≤◌, ◌==◌, false, length}
use Rattle.memcached_text.specs.Limits.{AreFlags}
use Rattle.memcached_session.specs.Counting.{number_of_outcome}
use Rattle.memcached_session.specs.Keyed.{KeyAsked, KeyMetaGet, KeyMetaSet, KeyMetaDelete, KeyMetaDelta}
use Rattle.memcached_session.specs.MetaSaying.{Went, WentValue, MetaSaid, Shown}
use Rattle.memcached_session.specs.Saying.{Said}

-- An answer of a step with a lane has at most 2,448 bytes: a value of 2,048, and 400 more. That it was lost is not how it went.
pub record IsLaneAnswer (said : Said) : Type 0 where
  pub few : length said.text ≤ 2448
  pub kept : (number_of_outcome said.outcome == 13) ≡ false

-- the flags of what is asked of a lane, if there are some, have no fault
abbrev pub AsksFlags : KeyAsked → Type 0
AsksFlags (KeyMetaGet meta) = AreFlags meta.flags
AsksFlags (KeyMetaSet meta block) = AreFlags meta.flags
AsksFlags (KeyMetaDelete meta) = AreFlags meta.flags
AsksFlags (KeyMetaDelta meta) = AreFlags meta.flags
AsksFlags _ = Unit {0}

-- the value that is answered to a meta command, if there is one, has at most 2,048 bytes
abbrev pub IsWentWithin : Went → Type 0
IsWentWithin (WentValue block) = length block ≤ 2048
IsWentWithin _ = Unit {0}

abbrev pub IsSaidWithin : MetaSaid → Type 0
IsSaidWithin (Shown shown) = IsWentWithin shown.went
IsSaidWithin _ = Unit {0}
