-- Choosing, of calls in numbers.
use Rattle.std.specs.Prelude.{◌≡◌, ◌≢◌, ℕ, ◌+◌, ◌*◌, ◌^◌, ◌<◌, ◌≤◌, ◌⊎◌, ◌↔◌, List, All, AllPairs, Contains, length, slice_get, take, Some, Option, MatchOption, IsTrue}
use Rattle.std.specs.Option.{option_map_or}
use Rattle.record_pages.specs.Expiry.{is_live}
use Rattle.trace_file.specs.declared.call_kind.CallKind.TheVariants as kinds
use Rattle.certificate_finder.specs.declared.groups.Groups.{Groups}
use Rattle.certificate_finder.specs.declared.numbered_call.NumberedCall.{NumberedCall}
use Rattle.certificate_finder.specs.declared.offer.Offer.{Offer}
use Rattle.certificate_finder.specs.declared.put.Put.{Put}
use Rattle.certificate_finder.specs.declared.ranked.Ranked.{Ranked}
use Rattle.certificate_finder.specs.declared.rule.Rule.{Rule}
use Rattle.certificate_finder.specs.declared.call_span.CallSpan.{CallSpan}
use Rattle.certificate_finder.specs.declared.stamp.Stamp.{Stamp}
use Rattle.certificate_finder.specs.declared.stamp.Stamp.TheVariants.{Start, End}
use Rattle.certificate_finder.specs.Choosing.{IsEarlierBy, IsOffer, Wins, WinsOver}
use Rattle.certificate_finder.specs.Lining.{positions_in}
use Rattle.certificate_finder.specs.Owning.{ReadsLive}
use Rattle.certificate_finder.specs.Putting.{last_rank}
use Rattle.certificate_finder.specs.Zones.{AreEarliest, AreLatest}

-- when the call at a position started and ended
abbrev pub times_in : List NumberedCall → ℕ → CallSpan
times_in steps position = record {
  start = option_map_or (λ step. step.start) (slice_get steps position) 0;
  end = option_map_or (λ step. step.end) (slice_get steps position) 0;
}

-- the call at a position is a hit that may have read the put at another one
pub record ReadsIn (steps : List NumberedCall) (hit put : ℕ) : Type 0 where
  pub asked : NumberedCall
  pub given : NumberedCall
  pub asked_at : slice_get steps hit ≡ Some asked
  pub given_at : slice_get steps put ≡ Some given
  pub kind : asked.kind ≡ kinds.Hit
  pub reads : ReadsLive steps asked given

-- each position has the calls of its zone
pub record AreGroups (steps : List NumberedCall) (groups : Groups) : Type 0 where
  pub count : length groups.owners.items ≡ length steps
  pub earliest : AreEarliest steps groups.owners.items groups.earliest.items
  pub latest : AreLatest steps groups.owners.items groups.latest.items

-- a call goes by itself
abbrev pub GoesByItself : List ℕ → ℕ → Type 0
GoesByItself owners position = slice_get owners position ≡ Some position

-- of a call and a hit the one that ends first
abbrev pub IsSooner : List NumberedCall → ℕ → ℕ → NumberedCall → ℕ → Type 0
IsSooner steps known hit step soonest =
    (best : NumberedCall) × (slice_get steps known ≡ Some best)
    × (((step.end < best.end) × (soonest ≡ hit)) ⊎ ((best.end ≤ step.end) × (soonest ≡ known)))

-- of a call and a hit the one that starts last
abbrev pub IsLater : List NumberedCall → ℕ → ℕ → NumberedCall → ℕ → Type 0
IsLater steps known hit step latest =
    (best : NumberedCall) × (slice_get steps known ≡ Some best)
    × (((best.start < step.start) × (latest ≡ hit)) ⊎ ((step.start ≤ best.start) × (latest ≡ known)))

-- of an offer and the best one so far, if there is one, the better one
abbrev pub IsWinner : Option Offer → Offer → Offer → Type 0
IsWinner best offer winner = MatchOption best (winner ≡ offer) (λ known. ((winner ≡ known) × Wins known offer) ⊎ ((winner ≡ offer) × (Wins offer known ⊎ (offer ≡ known))))

-- ---- going back over puts

-- no put from an index to another one can be read longer than the last of them
pub record IsLink (puts : List Put) (index link : ℕ) : Type 0 where
  pub back : link ≤ index
  pub least : (k : ℕ) (put last : Put) → link ≤ k → k ≤ index → slice_get puts k ≡ Some put → slice_get puts index ≡ Some last → last_rank put ≤ last_rank last

-- for each put below an index such an index
pub record AreLinksUpto (puts : List Put) (upto : ℕ) (links : List ℕ) : Type 0 where
  pub count : length links ≡ upto
  pub each : (index link : ℕ) → slice_get links index ≡ Some link → IsLink puts index link

-- for each put such an index
abbrev pub AreLinks : List Put → List ℕ → Type 0
AreLinks puts links = AreLinksUpto puts (length puts) links

-- ---- the best of the puts that a hit can have read

-- of the puts from an index to another one this offer is the best
pub record IsBestAmong (steps : List NumberedCall) (puts : List Put) (owners : List ℕ) (rule : Rule) (hit from upto : ℕ) (offer : Offer) : Type 0 where
  pub is : IsOffer rule (times_in steps) owners hit offer
  pub can : ReadsIn steps hit offer.put
  pub best : (k : ℕ) (put : Put) → from ≤ k → k < upto → slice_get puts k ≡ Some put → ReadsIn steps hit put.position → put.position ≢ offer.put → WinsOver rule (times_in steps) owners hit offer put.position

-- of the puts from an index to another one the best offer, if the hit can have read one
abbrev pub IsBestOffer : List NumberedCall → List Put → List ℕ → Rule → ℕ → ℕ → ℕ → Option Offer → Type 0
IsBestOffer steps puts owners rule hit from upto best = MatchOption best ((k : ℕ) (put : Put) → from ≤ k → k < upto → slice_get puts k ≡ Some put → ¬ ReadsIn steps hit put.position) (IsBestAmong steps puts owners rule hit from upto)

-- the best offer so far with one put more, if that is live
abbrev pub IsWithPut : List NumberedCall → List ℕ → Rule → ℕ → Put → Option Offer → Option Offer → Type 0
IsWithPut steps owners rule hit put best new =
    (asked : NumberedCall) × (slice_get steps hit ≡ Some asked)
    × (((¬ IsTrue (is_live put.expires asked.time)) × (new ≡ best))
    ⊎ (IsTrue (is_live put.expires asked.time) × ((offer : Offer) × (winner : Offer) × (offer.put ≡ put.position) × IsOffer rule (times_in steps) owners hit offer × IsWinner best offer winner × (new ≡ Some winner))))

-- ---- hits by their stamps

-- one of a call's stamps
abbrev pub stamp_of : Stamp → NumberedCall → ℕ
stamp_of Start step = step.start
stamp_of End step = step.end

-- that stamp of the call at a position
abbrev pub stamp_at : Stamp → List NumberedCall → ℕ → ℕ
stamp_at Start steps position = (times_in steps position).start
stamp_at End steps position = (times_in steps position).end

-- the rank of a hit: by a stamp, then by position
abbrev pub rank_of_hit : Stamp → List NumberedCall → ℕ → ℕ
rank_of_hit stamp steps position = stamp_at stamp steps position * 2 ^ 32 + position

-- the first of some hits, with their ranks
pub record AreListed (stamp : Stamp) (steps : List NumberedCall) (positions : List ℕ) (upto : ℕ) (hits : List Ranked) : Type 0 where
  pub same : positions_in hits ≡ take upto positions
  pub ranks : All (λ (hit : Ranked). (hit.rank ≡ rank_of_hit stamp steps hit.position) × (hit.position < 2 ^ 32)) hits

-- the same hits by a stamp, those of one stamp by their positions
pub record AreByStamps (stamp : Stamp) (steps : List NumberedCall) (positions : List ℕ) (hits : List Ranked) : Type 0 where
  pub same : (hit : ℕ) → Contains positions hit ↔ Contains (positions_in hits) hit
  pub order : AllPairs (IsEarlierBy (stamp_at stamp steps)) (positions_in hits)

-- the same hits, in the order in which they get a put
abbrev pub HitsInTurn : List NumberedCall → List ℕ → List Ranked → Type 0
HitsInTurn steps unsure hits = AreByStamps Start steps unsure hits
