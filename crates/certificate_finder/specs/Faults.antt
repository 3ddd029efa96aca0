-- All that is wrong with a history.
use Rattle.std.specs.Prelude.{◌≡◌, ◌≢◌, ℕ, List, [], All, AllPairs, Contains, length, map, slice_get, take}
use Rattle.std.specs.Option.{option_map_or}
use Rattle.trace_file.specs.declared.call.Call.{Call}
use Rattle.certificate_finder.specs.declared.excluded.Excluded.{Excluded}
use Rattle.certificate_finder.specs.declared.faults.CrossedWrites.{CrossedWrites}
use Rattle.certificate_finder.specs.declared.faults.Faults.{Faults}
use Rattle.certificate_finder.specs.declared.faults.WrongHit.{WrongHit}
use Rattle.certificate_finder.specs.declared.unread_hit.UnreadHit.{UnreadHit}
use Rattle.certificate_finder.specs.declared.witness.Side.{Side}
use Rattle.certificate_finder.specs.Choosing.{IsEarlierBy}
use Rattle.certificate_finder.specs.Finding.{IsReversed}
use Rattle.certificate_finder.specs.Lateness.{late_hit}
use Rattle.certificate_finder.specs.Lists.{AreAllBelow}
use Rattle.certificate_finder.specs.Reads.{HasNone, HasSeveral}
use Rattle.certificate_finder.specs.Trying.{AreCrossedBy, AreSure}
use Rattle.certificate_finder.specs.Turns.{end_at}
use Rattle.certificate_finder.specs.Witnesses.{AreCrossed, IsUnread, IsUnreadBy, ReadsNone}
use Rattle.certificate_finder.specs.Zones.{Goes}

-- the positions of some hits
abbrev pub hits_in : List WrongHit → List ℕ
hits_in hits = map (λ (wrong : WrongHit). wrong.hit) hits

-- a hit can have read no put: of all puts of its key and value, with what excludes each, the first so many are listed, and by all of them it is so late
pub record IsWrongHit (history : List Call) (most : ℕ) (wrong : WrongHit) : Type 0 where
  pub puts : List Excluded
  pub none : ReadsNone history wrong.hit puts
  pub first : wrong.puts.items ≡ take most puts
  pub late : wrong.late ≡ late_hit history wrong.hit puts

-- these are all hits that can have read no put, by their ends, each once, with the first so many of all puts of its key and value and what excludes each
pub record AreWrongHits (history : List Call) (most : ℕ) (hits : List WrongHit) : Type 0 where
  pub each : All (IsWrongHit history most) hits
  pub all : (hit : ℕ) → HasNone history hit → Contains (hits_in hits) hit
  pub order : AllPairs (IsEarlierBy (end_at history)) (hits_in hits)

-- the key of the call at a position
abbrev pub key_at : List Call → ℕ → List ℕ
key_at history position = option_map_or (λ call. call.key) (slice_get history position) []

-- the keys of some crossed writes
abbrev pub keys_in : List Call → List CrossedWrites → List (List ℕ)
keys_in history crossed = map (λ (writes : CrossedWrites). key_at history writes.one.write) crossed

-- of each key with two writes that are crossed by themselves and by the hits that can have read one put alone, these are two, each key once
pub record AreCrossedWrites (history : List Call) (crossed : List CrossedWrites) : Type 0 where
  pub owners : List ℕ
  pub sure : AreSure history owners
  pub each : All (λ (writes : CrossedWrites). AreCrossed history writes.one writes.other) crossed
  pub by_sure : All (λ (writes : CrossedWrites). AreCrossedBy history owners writes.one writes.other) crossed
  pub all : (one other : Side) (writes : AreCrossedBy history owners one other) → Contains (keys_in history crossed) writes.key
  pub once : AllPairs (λ (one other : CrossedWrites). key_at history one.one.write ≢ key_at history other.one.write) crossed

-- the positions of some hits
abbrev pub unread_in : List UnreadHit → List ℕ
unread_in hits = map (λ (unread : UnreadHit). unread.hit) hits

-- a hit would cross two writes whichever of its puts it read, by the calls that surely go with each: of all puts that it can have read the first so many are listed
pub record IsUnreadHit (history : List Call) (owners : List ℕ) (most : ℕ) (unread : UnreadHit) : Type 0 where
  pub reads : List CrossedWrites
  pub is : IsUnread history unread.hit reads
  pub by_sure : IsUnreadBy (Goes owners) history unread.hit reads
  pub first : unread.reads.items ≡ take most reads

-- these are all hits that can have read several puts, and would cross two writes whichever they read, by their ends: by the calls that go with each write, which are itself and the hits that can have read it alone
pub record AreUnreadHits (history : List Call) (most : ℕ) (hits : List UnreadHit) : Type 0 where
  pub owners : List ℕ
  pub sure : AreSure history owners
  pub each : All (IsUnreadHit history owners most) hits
  pub several : All (HasSeveral history) (unread_in hits)
  pub all : (hit : ℕ) (reads : List CrossedWrites) → HasSeveral history hit → IsUnreadBy (Goes owners) history hit reads → Contains (unread_in hits) hit
  pub order : AllPairs (IsEarlierBy (end_at history)) (unread_in hits)

-- all faults but the calls that end before they start. Of the puts of a hit the first so many are listed
pub record AreFaultsBut (history : List Call) (most : ℕ) (faults : Faults) : Type 0 where
  pub hits : AreWrongHits history most faults.hits.items
  pub crossed : AreCrossedWrites history faults.crossed.items
  pub unread : AreUnreadHits history most faults.unread.items

-- all that is wrong with a history: the calls that end before they start, the hits that can have read no put, the crossed writes of each key, and the hits that would cross two writes whichever of several puts they read
pub record AreFaults (history : List Call) (most : ℕ) (faults : Faults) : Type 0 where
  pub reversed : AreAllBelow (IsReversed history) (length history) faults.reversed.items
  pub hits : AreWrongHits history most faults.hits.items
  pub crossed : AreCrossedWrites history faults.crossed.items
  pub unread : AreUnreadHits history most faults.unread.items
