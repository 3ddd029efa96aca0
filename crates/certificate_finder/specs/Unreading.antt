-- Hits that would cross two writes whichever put they read, in numbers.
use Rattle.std.specs.Prelude.{◌≡◌, ◌≢◌, ℕ, ◌<◌, ◌≤◌, ◌⊎◌, ◌++◌, ◌∷◌, [], List, All, AllPairs, Bool, true, false, Contains, IsTrue, MatchOption, Option, length, map, slice_get, take, Some}
use Rattle.std.specs.List.Sorted.{IsNonDecreasingBy}
use Rattle.record_pages.specs.Expiry.{is_live}
use Rattle.certificate_finder.specs.declared.by_ends.ByEnds.{ByEnds}
use Rattle.certificate_finder.specs.declared.by_ends.Top.{Top}
use Rattle.certificate_finder.specs.declared.faults.CrossedWrites.{CrossedWrites}
use Rattle.certificate_finder.specs.declared.numbered_call.NumberedCall.{NumberedCall}
use Rattle.certificate_finder.specs.declared.put.Put.{Put}
use Rattle.certificate_finder.specs.declared.stamp.Stamp.TheVariants.{End}
use Rattle.certificate_finder.specs.declared.unread_hit.UnreadHit.{UnreadHit}
use Rattle.certificate_finder.specs.declared.witness.Side.{Side}
use Rattle.certificate_finder.specs.declared.zone.Zone.{Zone}
use Rattle.certificate_finder.specs.Choosing.{IsEarlierBy}
use Rattle.certificate_finder.specs.Faults.{unread_in}
use Rattle.certificate_finder.specs.Lists.{Lists}
use Rattle.certificate_finder.specs.Offering.{ReadsIn, stamp_at}
use Rattle.certificate_finder.specs.Witnesses.{ReadPutsOnce}
use Rattle.certificate_finder.specs.Writing.{Writing, key_rank}
use Rattle.certificate_finder.specs.Zones.{AreDistinct, Goes, IsFitZone, TellsZone}

-- ---- the zones by their ends

-- by keys, and within a key by the least end
abbrev pub end_rank : Zone → ℕ
end_rank zone = key_rank zone.key zone.end

-- the zones of all writes by their ends
pub record AreEndZones (steps : List NumberedCall) (owners : List ℕ) (zones : List Zone) : Type 0 where
  pub lists : Lists steps Writing (TellsZone steps owners) (length steps) zones
  pub sorted : IsNonDecreasingBy end_rank zones
  pub distinct : AreDistinct zones
  pub fit : All IsFitZone zones

-- of the zones up to an index that are of the key of the one there these start last: the first of all, the second of all others, if there are others
pub record IsTop (zones : List Zone) (index : ℕ) (top : Top) : Type 0 where
  pub zone : Zone
  pub first : Zone
  pub second : Zone
  pub at : slice_get zones index ≡ Some zone
  pub first_at : slice_get zones top.first ≡ Some first
  pub second_at : slice_get zones top.second ≡ Some second
  pub first_in : top.first ≤ index
  pub second_in : top.second ≤ index
  pub first_key : first.key ≡ zone.key
  pub second_key : second.key ≡ zone.key
  pub greatest : (k : ℕ) (other : Zone) → k ≤ index → slice_get zones k ≡ Some other → other.key ≡ zone.key → other.start ≤ first.start
  pub next : (k : ℕ) (other : Zone) → k ≤ index → slice_get zones k ≡ Some other → other.key ≡ zone.key → k ≢ top.first → (top.second ≢ top.first) × (other.start ≤ second.start)

-- such zones for each index below one
pub record AreTops (zones : List Zone) (upto : ℕ) (tops : List Top) : Type 0 where
  pub count : length tops ≡ upto
  pub each : (index : ℕ) (top : Top) → slice_get tops index ≡ Some top → IsTop zones index top

-- the zones by their ends, with those that start last
pub record AreByEnds (steps : List NumberedCall) (owners : List ℕ) (by_ends : ByEnds) : Type 0 where
  pub zones : AreEndZones steps owners by_ends.zones.items
  pub tops : AreTops by_ends.zones.items (length by_ends.zones.items) by_ends.tops.items

-- a zone is of a key, ends before a stamp, and is of another write than this one
pub record IsOther (key before write : ℕ) (zone : Zone) : Type 0 where
  pub of_key : zone.key ≡ key
  pub ends : zone.end < before
  pub apart : zone.write ≢ write

-- of such zones this one starts last
pub record StartsLast (zones : List Zone) (key before write : ℕ) (zone : Zone) : Type 0 where
  pub listed : Contains zones zone
  pub is : IsOther key before write zone
  pub greatest : All (λ other. IsOther key before write other → other.start ≤ zone.start) zones

-- of such zones the one that starts last, if there are such
abbrev pub IsLastOther : List Zone → ℕ → ℕ → ℕ → Option Zone → Type 0
IsLastOther zones key before write found = MatchOption found (All (λ zone. ¬ IsOther key before write zone) zones) (StartsLast zones key before write)

-- ---- what would be crossed

-- the call at a position goes with a put, if a hit read it
abbrev pub GoesIf : List ℕ → ℕ → ℕ → ℕ → Type 0
GoesIf owners hit put call = (call ≡ hit) ⊎ Goes owners put call

-- the calls that go with a put if a hit read it: which of them ends first, and which starts last
pub record IsSideIf (steps : List NumberedCall) (owners : List ℕ) (hit put : ℕ) (side : Side) : Type 0 where
  pub write : side.write ≡ put
  pub early : NumberedCall
  pub late : NumberedCall
  pub early_at : slice_get steps side.early ≡ Some early
  pub late_at : slice_get steps side.late ≡ Some late
  pub early_goes : GoesIf owners hit put side.early
  pub late_goes : GoesIf owners hit put side.late
  pub least : (position : ℕ) (call : NumberedCall) → slice_get steps position ≡ Some call → GoesIf owners hit put position → early.end ≤ call.end
  pub greatest : (position : ℕ) (call : NumberedCall) → slice_get steps position ≡ Some call → GoesIf owners hit put position → call.start ≤ late.start

-- if a hit read a put, it would be crossed with another write of its key
pub record IsCrossedIf (steps : List NumberedCall) (owners : List ℕ) (hit put : ℕ) (writes : CrossedWrites) : Type 0 where
  pub write : writes.one.write ≡ put
  pub apart : writes.other.write ≢ put
  pub given : NumberedCall
  pub other : NumberedCall
  pub early : NumberedCall
  pub late : NumberedCall
  pub other_early : NumberedCall
  pub other_late : NumberedCall
  pub given_at : slice_get steps put ≡ Some given
  pub other_at : slice_get steps writes.other.write ≡ Some other
  pub early_at : slice_get steps writes.one.early ≡ Some early
  pub late_at : slice_get steps writes.one.late ≡ Some late
  pub other_early_at : slice_get steps writes.other.early ≡ Some other_early
  pub other_late_at : slice_get steps writes.other.late ≡ Some other_late
  pub writing : Writing other
  pub key : other.key ≡ given.key
  pub early_goes : GoesIf owners hit put writes.one.early
  pub late_goes : GoesIf owners hit put writes.one.late
  pub other_early_goes : Goes owners writes.other.write writes.other.early
  pub other_late_goes : Goes owners writes.other.write writes.other.late
  pub forth : early.end < other_late.start
  pub back : other_early.end < late.start

-- no write would be crossed with a put, if a hit read it
abbrev pub IsOpen : List NumberedCall → List ℕ → ℕ → ℕ → Type 0
IsOpen steps owners hit put = (writes : CrossedWrites) → ¬ IsCrossedIf steps owners hit put writes

-- a put was looked at: if it is live and would be crossed, that is listed; if it is live and would not be, the answer is no
abbrev pub IsLookedAt : List NumberedCall → List ℕ → ℕ → Put → Bool → List CrossedWrites → List CrossedWrites → Type 0
IsLookedAt steps owners hit put true old new =
    (asked : NumberedCall) × (slice_get steps hit ≡ Some asked)
    × (((¬ IsTrue (is_live put.expires asked.time)) × (new ≡ old))
    ⊎ (IsTrue (is_live put.expires asked.time) × ((writes : CrossedWrites) × IsCrossedIf steps owners hit put.position writes × (new ≡ old ++ writes ∷ []))))
IsLookedAt steps owners hit put false old new =
    (asked : NumberedCall) × (slice_get steps hit ≡ Some asked)
    × IsTrue (is_live put.expires asked.time) × IsOpen steps owners hit put.position

-- the positions of the puts of some crossings
abbrev pub puts_in : List CrossedWrites → List ℕ
puts_in reads = map (λ (writes : CrossedWrites). writes.one.write) reads

-- a hit can have read the first of these writes, and would cross both
pub record IsCrossedRead (steps : List NumberedCall) (owners : List ℕ) (hit : ℕ) (writes : CrossedWrites) : Type 0 where
  pub reads : ReadsIn steps hit writes.one.write
  pub crossed : IsCrossedIf steps owners hit writes.one.write writes

-- the first of these writes is a put from an index on
abbrev pub IsPutFrom : List Put → ℕ → CrossedWrites → Type 0
IsPutFrom puts from writes = (k : ℕ) × (put : Put) × (from ≤ k) × (slice_get puts k ≡ Some put) × (put.position ≡ writes.one.write)

-- each of the puts from an index on that a hit can have read is listed once, and would be crossed
pub record AreReadsFrom (steps : List NumberedCall) (owners : List ℕ) (hit : ℕ) (puts : List Put) (from : ℕ) (reads : List CrossedWrites) : Type 0 where
  pub each : All (IsCrossedRead steps owners hit) reads
  pub all : (k : ℕ) (put : Put) → from ≤ k → slice_get puts k ≡ Some put → ReadsIn steps hit put.position → Contains (puts_in reads) put.position
  pub beyond : All (IsPutFrom puts from) reads
  pub once : ReadPutsOnce reads

-- the hit at a position can have read these puts, each listed once, and each would be crossed
pub record IsUnreadIn (steps : List NumberedCall) (owners : List ℕ) (hit : ℕ) (reads : List CrossedWrites) : Type 0 where
  pub each : All (IsCrossedRead steps owners hit) reads
  pub all : (put : ℕ) → ReadsIn steps hit put → Contains (puts_in reads) put
  pub once : ReadPutsOnce reads

-- a hit can have read a put that would not be crossed
pub record HasOpen (steps : List NumberedCall) (owners : List ℕ) (hit : ℕ) : Type 0 where
  pub put : ℕ
  pub reads : ReadsIn steps hit put
  pub open_is : IsOpen steps owners hit put

-- a hit is one of those below an index
abbrev pub IsBelow : List ℕ → ℕ → ℕ → Type 0
IsBelow hits upto hit = (k : ℕ) × (k < upto) × (slice_get hits k ≡ Some hit)

-- of all puts that a hit can have read, each of which would be crossed, the first so many are listed
pub record IsShortUnread (steps : List NumberedCall) (owners : List ℕ) (most : ℕ) (unread : UnreadHit) : Type 0 where
  pub reads : List CrossedWrites
  pub is : IsUnreadIn steps owners unread.hit reads
  pub first : unread.reads.items ≡ take most reads

-- the puts of this hit would all be crossed, and each hit before it can have read one that would not be
pub record IsFirstUnreadIn (steps : List NumberedCall) (owners hits : List ℕ) (unread : UnreadHit) : Type 0 where
  pub place : ℕ
  pub at : slice_get hits place ≡ Some unread.hit
  pub is : IsUnreadIn steps owners unread.hit unread.reads.items
  pub before : (k hit : ℕ) → k < place → slice_get hits k ≡ Some hit → HasOpen steps owners hit

-- the same of hits in whatever order: no other one that ends earlier, or of the same end stands earlier, has puts that would all be crossed
pub record IsFirstUnreadOf (steps : List NumberedCall) (owners unsure : List ℕ) (unread : UnreadHit) : Type 0 where
  pub among : Contains unsure unread.hit
  pub is : IsUnreadIn steps owners unread.hit unread.reads.items
  pub first : (hit : ℕ) → Contains unsure hit → HasOpen steps owners hit ⊎ ((hit ≡ unread.hit) ⊎ IsEarlierBy (stamp_at End steps) unread.hit hit)

-- of the hits below an index these are those whose puts would all be crossed, by their ends
pub record AreUnreadUpto (steps : List NumberedCall) (owners : List ℕ) (most : ℕ) (hits : List ℕ) (upto : ℕ) (found : List UnreadHit) : Type 0 where
  pub each : All (IsShortUnread steps owners most) found
  pub below : All (IsBelow hits upto) (unread_in found)
  pub all : (hit : ℕ) → IsBelow hits upto hit → HasOpen steps owners hit ⊎ Contains (unread_in found) hit
  pub order : AllPairs (IsEarlierBy (stamp_at End steps)) (unread_in found)

-- of these hits those whose puts would all be crossed, by their ends
pub record AreUnreadOf (steps : List NumberedCall) (owners : List ℕ) (most : ℕ) (unsure : List ℕ) (found : List UnreadHit) : Type 0 where
  pub each : All (IsShortUnread steps owners most) found
  pub among : All (Contains unsure) (unread_in found)
  pub all : (hit : ℕ) → Contains unsure hit → HasOpen steps owners hit ⊎ Contains (unread_in found) hit
  pub order : AllPairs (IsEarlierBy (stamp_at End steps)) (unread_in found)
