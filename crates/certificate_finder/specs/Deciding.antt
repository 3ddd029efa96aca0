-- Trying the rules, of calls in numbers.
use Rattle.std.specs.Prelude.{◌≡◌, ℕ, ◌<◌, ◌≤◌, ◌⊎◌, Bool, true, false, List, All, length, slice_get, slice_set, Some}
use Rattle.trace_file.specs.declared.call.Call.{Call}
use Rattle.certificate_checker.specs.Acceptance.{IsAccepted}
use Rattle.certificate_finder.specs.declared.mix.Mix.{Mix}
use Rattle.certificate_finder.specs.declared.numbered_call.NumberedCall.{NumberedCall}
use Rattle.certificate_finder.specs.declared.put.Put.{Put}
use Rattle.certificate_finder.specs.declared.ranked.Ranked.{Ranked}
use Rattle.certificate_finder.specs.declared.rule.Rule.{Rule}
use Rattle.certificate_finder.specs.declared.zone.Zone.{Zone}
use Rattle.certificate_finder.specs.Choosing.{ChoosesBy, all_rules}
use Rattle.certificate_finder.specs.Lining.{positions_in}
use Rattle.certificate_finder.specs.Offering.{AreLinks, HitsInTurn, ReadsIn, times_in}
use Rattle.certificate_finder.specs.Owning.{AreSureOwners}
use Rattle.certificate_finder.specs.Putting.{ArePuts}
use Rattle.certificate_finder.specs.Steps.{AreSteps}
use Rattle.certificate_finder.specs.Zones.{AreCrossedAt, AreZones}

-- each history of these calls is accepted with this certificate
abbrev pub MakesAccepted : List NumberedCall → List ℕ → Type 0
MakesAccepted steps certificate = (history : List Call) → AreSteps history steps → All (λ call. call.start ≤ call.end) history → IsAccepted history certificate

-- by a rule's choice two zones of a key are crossed
pub record FailsAt (steps : List NumberedCall) (owners hits : List ℕ) (key : ℕ) (rule : Rule) : Type 0 where
  pub chosen : List ℕ
  pub by_rule : ChoosesBy rule (ReadsIn steps) (times_in steps) owners hits chosen
  pub zones : List Zone
  pub are_zones : AreZones steps chosen zones
  pub crossed : AreCrossedAt zones key

-- two lists have the same owners for the calls of a key
abbrev pub AgreeAt : List NumberedCall → ℕ → List ℕ → List ℕ → Type 0
AgreeAt steps key one other = (position : ℕ) (step : NumberedCall) → slice_get steps position ≡ Some step → step.key ≡ key → slice_get one position ≡ slice_get other position

-- by a rule's choice no two zones of a key are crossed, and these are its owners for the calls of the key
pub record IsSettledAt (steps : List NumberedCall) (owners hits : List ℕ) (key : ℕ) (mixed : List ℕ) : Type 0 where
  pub rule : Rule
  pub chosen : List ℕ
  pub by_rule : ChoosesBy rule (ReadsIn steps) (times_in steps) owners hits chosen
  pub zones : List Zone
  pub are_zones : AreZones steps chosen zones
  pub uncrossed : ¬ AreCrossedAt zones key
  pub agree : AgreeAt steps key mixed chosen

-- what the rules need: the sure owners, the puts with their links, and the hits in turn
pub record IsReady (steps : List NumberedCall) (owners : List ℕ) (puts : List Put) (links : List ℕ) (hits : List Ranked) : Type 0 where
  pub unsure : List ℕ
  pub own : AreSureOwners steps (length steps) owners unsure
  pub puts_are : ArePuts steps puts
  pub links_are : AreLinks puts links
  pub turned : HitsInTurn steps unsure hits

-- there is a flag for each key, and an owner for each call
pub record IsMix (steps : List NumberedCall) (mix : Mix) : Type 0 where
  pub count : length mix.owners.items ≡ length steps
  pub keys : All (λ step. step.key < length mix.stuck.items) steps

-- after the first rules each key is stuck, and then each of them fails at it, or settled
pub record IsMixOf (steps : List NumberedCall) (owners hits : List ℕ) (upto : ℕ) (mix : Mix) : Type 0 where
  pub is : IsMix steps mix
  pub stuck : (key k : ℕ) (rule : Rule) → slice_get mix.stuck.items key ≡ Some true → k < upto → slice_get all_rules k ≡ Some rule → FailsAt steps owners hits key rule
  pub settled : (key : ℕ) → slice_get mix.stuck.items key ≡ Some false → IsSettledAt steps owners hits key mix.owners.items

-- of the keys that were stuck those are still that have two crossed zones
pub record AreStill (zones : List Zone) (stuck still : List Bool) : Type 0 where
  pub count : length still ≡ length stuck
  pub crossed : (key : ℕ) → slice_get still key ≡ Some true → (slice_get stuck key ≡ Some true) × AreCrossedAt zones key
  pub none : (key : ℕ) → slice_get still key ≡ Some false → slice_get stuck key ≡ Some true → ¬ AreCrossedAt zones key

-- two zones that come one after the other are crossed, and their key was stuck
pub record IsCrossedNext (stuck : List Bool) (high zone : Zone) : Type 0 where
  pub key : zone.key ≡ high.key
  pub back : zone.end < high.start
  pub stuck_is : slice_get stuck zone.key ≡ Some true

-- the key of a zone is marked, if that is so
abbrev pub IsMarked : List Bool → Zone → Zone → List Bool → List Bool → Type 0
IsMarked stuck high zone old new =
    (IsCrossedNext stuck high zone × (new ≡ slice_set old zone.key true))
    ⊎ ((¬ IsCrossedNext stuck high zone) × (new ≡ old))

-- the owner of a call, if its key was stuck that which is chosen, otherwise that which it had
abbrev pub IsMixedAt : List NumberedCall → List Bool → List ℕ → List ℕ → ℕ → ℕ → Type 0
IsMixedAt steps stuck chosen old position owner =
    (step : NumberedCall) × (slice_get steps position ≡ Some step)
    × (((slice_get stuck step.key ≡ Some true) × (slice_get chosen position ≡ Some owner))
    ⊎ ((slice_get stuck step.key ≡ Some false) × (slice_get old position ≡ Some owner)))

-- each call has such an owner
pub record AreMixed (steps : List NumberedCall) (stuck : List Bool) (chosen old new : List ℕ) : Type 0 where
  pub count : length new ≡ length old
  pub each : (position owner : ℕ) → slice_get new position ≡ Some owner → IsMixedAt steps stuck chosen old position owner

-- a rule was tried: of the keys that were stuck those are settled that its choice leaves uncrossed, and the calls of all that were stuck have its owners
pub record IsTried (steps : List NumberedCall) (owners hits : List ℕ) (rule : Rule) (old new : Mix) : Type 0 where
  pub chosen : List ℕ
  pub by_rule : ChoosesBy rule (ReadsIn steps) (times_in steps) owners hits chosen
  pub zones : List Zone
  pub are_zones : AreZones steps chosen zones
  pub still : AreStill zones old.stuck.items new.stuck.items
  pub mixed : AreMixed steps old.stuck.items chosen old.owners.items new.owners.items

-- there is a key at which each rule fails
pub record FailAtSome (steps : List NumberedCall) (owners hits : List ℕ) : Type 0 where
  pub key : ℕ
  pub fail : All (FailsAt steps owners hits key) all_rules

-- there is a key for which no rule gives a certificate
pub record NoneGives (steps : List NumberedCall) (owners unsure : List ℕ) : Type 0 where
  pub hits : List Ranked
  pub turned : HitsInTurn steps unsure hits
  pub fail : FailAtSome steps owners (positions_in hits)
