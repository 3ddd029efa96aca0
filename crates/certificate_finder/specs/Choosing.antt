-- Choosing one put for each hit that can have read several, by a rule.
use Rattle.std.specs.Prelude.{◌≡◌, ◌≢◌, ℕ, ◌+◌, ◌-◌, ◌^◌, ◌<◌, ◌≤◌, ◌⊎◌, Bool, List, [], ◌∷◌, slice_set, nat_le, nat_lt, if◌then◌else◌}
use Rattle.certificate_finder.specs.declared.offer.Offer.{Offer}
use Rattle.certificate_finder.specs.declared.rule.Rule.{Rule}
use Rattle.certificate_finder.specs.declared.rule.Rule.TheVariants.{LeastGrowth, LatestStart, EarliestStart, LatestBegun, LatestEnded}
use Rattle.certificate_finder.specs.declared.call_span.CallSpan.{CallSpan}
use Rattle.certificate_finder.specs.Zones.{Goes}

-- the rules, in the order in which they are tried
abbrev pub all_rules : List Rule
all_rules = LeastGrowth ∷ LatestStart ∷ EarliestStart ∷ LatestBegun ∷ LatestEnded ∷ []

-- the cost of a put by its start: of the preferred ones the last costs least, of the others the first
abbrev pub last_or_first : Bool → ℕ → ℕ
last_or_first preferred start = if preferred then 2 ^ 64 - start else 2 ^ 65 + start

-- what a put costs a hit by a rule, if the calls that go with the put have this zone: the hit gets the put that costs least
abbrev pub cost_of : Rule → CallSpan → CallSpan → CallSpan → ℕ
cost_of LeastGrowth hit put zone = (hit.start - zone.start) + (zone.end - hit.end)
cost_of LatestStart hit put zone = 2 ^ 64 - put.start
cost_of EarliestStart hit put zone = put.start
cost_of LatestBegun hit put zone = last_or_first (nat_le put.start hit.start) put.start
cost_of LatestEnded hit put zone = last_or_first (nat_lt put.end hit.start) put.start

-- a put is preferred to another: it costs less, or as much and started later, or then has the later position
abbrev pub Wins : Offer → Offer → Type 0
Wins one other =
    (one.cost < other.cost)
    ⊎ ((one.cost ≡ other.cost) × ((other.start < one.start) ⊎ ((one.start ≡ other.start) × (other.put < one.put))))

-- the zone of a put: the least end and the greatest start of the calls that go with it
pub record IsZoneOf (times : ℕ → CallSpan) (owners : List ℕ) (put : ℕ) (zone : CallSpan) : Type 0 where
  pub early : ℕ
  pub late : ℕ
  pub early_goes : Goes owners put early
  pub late_goes : Goes owners put late
  pub end : zone.end ≡ (times early).end
  pub start : zone.start ≡ (times late).start
  pub least : (other : ℕ) → Goes owners put other → zone.end ≤ (times other).end
  pub greatest : (other : ℕ) → Goes owners put other → (times other).start ≤ zone.start

-- what a put costs a hit by a rule, if the calls have these owners so far
pub record IsOffer (rule : Rule) (times : ℕ → CallSpan) (owners : List ℕ) (hit : ℕ) (offer : Offer) : Type 0 where
  pub zone : CallSpan
  pub is_zone : IsZoneOf times owners offer.put zone
  pub start : offer.start ≡ (times offer.put).start
  pub cost : offer.cost ≡ cost_of rule (times hit) (times offer.put) zone

-- an offer wins over that of a put
pub record WinsOver (rule : Rule) (times : ℕ → CallSpan) (owners : List ℕ) (hit : ℕ) (offer : Offer) (put : ℕ) : Type 0 where
  pub rival : Offer
  pub is : IsOffer rule times owners hit rival
  pub put_is : rival.put ≡ put
  pub wins : Wins offer rival

-- of the puts that a hit can have read a rule prefers this one
pub record IsChosen (rule : Rule) (reads : ℕ → ℕ → Type 0) (times : ℕ → CallSpan) (owners : List ℕ) (hit put : ℕ) : Type 0 where
  pub offer : Offer
  pub is : IsOffer rule times owners hit offer
  pub put_is : offer.put ≡ put
  pub can : reads hit put
  pub best : (other : ℕ) → reads hit other → other ≢ put → WinsOver rule times owners hit offer other

-- hits get a put each, one hit after the other: each goes with its put when the next one gets its own
abbrev pub ChoosesBy : Rule → (ℕ → ℕ → Type 0) → (ℕ → CallSpan) → List ℕ → List ℕ → List ℕ → Type 0
ChoosesBy rule reads times owners [] chosen = chosen ≡ owners
ChoosesBy rule reads times owners (hit ∷ hits) chosen =
    (put : ℕ) × IsChosen rule reads times owners hit put × ChoosesBy rule reads times (slice_set owners hit put) hits chosen

-- a position comes before another one by their stamps: its stamp is less, or the stamps are the same and the position is less
abbrev pub IsEarlierBy : (ℕ → ℕ) → ℕ → ℕ → Type 0
IsEarlierBy stamp one other = (stamp one < stamp other) ⊎ ((stamp one ≡ stamp other) × (one < other))

-- a hit gets its put before another one: it started earlier, or at the same stamp and has the earlier position
abbrev pub ComesBefore : (ℕ → CallSpan) → ℕ → ℕ → Type 0
ComesBefore times = IsEarlierBy (λ position. (times position).start)
