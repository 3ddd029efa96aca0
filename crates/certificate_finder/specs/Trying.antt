-- That no rule gives a certificate for a key of a history.
use Rattle.std.specs.Prelude.{◌≡◌, ◌≢◌, ℕ, ◌⊎◌, List, All, AllPairs, Contains, length, slice_get, Some, IsSomeAnd}
use Rattle.trace_file.specs.declared.call.Call.{Call}
use Rattle.certificate_checker.specs.Deeds.{deed_of}
use Rattle.certificate_checker.specs.Latest.{Writes}
use Rattle.certificate_checker.specs.Orders.{Precedes}
use Rattle.certificate_finder.specs.declared.rule.Rule.{Rule}
use Rattle.certificate_finder.specs.declared.call_span.CallSpan.{CallSpan}
use Rattle.certificate_finder.specs.declared.witness.Side.{Side}
use Rattle.certificate_finder.specs.Choosing.{ChoosesBy, ComesBefore, all_rules}
use Rattle.certificate_finder.specs.Reads.{CouldRead, HasSeveral}
use Rattle.certificate_finder.specs.Turns.{end_at, start_at}
use Rattle.certificate_finder.specs.Zones.{Goes}

-- when the call at a position started and ended
abbrev pub times_at : List Call → ℕ → CallSpan
times_at history position = record { start = start_at history position; end = end_at history position }

-- the hit at a position can have read the put at another one, and no other put
pub record IsSure (history : List Call) (hit put : ℕ) : Type 0 where
  pub could : CouldRead history hit put
  pub only : (other : ℕ) → CouldRead history hit other → other ≡ put

-- a hit that can have read one put alone has it as its owner, each other call goes by itself
pub record AreSure (history : List Call) (owners : List ℕ) : Type 0 where
  pub count : length owners ≡ length history
  pub each : (position owner : ℕ) → slice_get owners position ≡ Some owner → IsSure history position owner ⊎ ((owner ≡ position) × ((put : ℕ) → ¬ IsSure history position put))

-- all hits that can have read several puts, in the order in which they get one
pub record AreInTurn (history : List Call) (hits : List ℕ) : Type 0 where
  pub each : All (HasSeveral history) hits
  pub all : (hit : ℕ) → HasSeveral history hit → Contains hits hit
  pub order : AllPairs (ComesBefore (times_at history)) hits

-- the early call of one side precedes the late call of the other, both sides by these owners
pub record IsSideBy (history : List Call) (owners : List ℕ) (key : List ℕ) (side other : Side) : Type 0 where
  pub writes : IsSomeAnd (slice_get history side.write) (λ write. Writes (deed_of write) key)
  pub early_goes : Goes owners side.write side.early
  pub late_goes : Goes owners side.write side.late
  pub precedes : IsSomeAnd (slice_get history side.early) (λ early. IsSomeAnd (slice_get history other.late) (λ late. Precedes early late))

-- two writes of one key, each of which has to stand before the other if the calls have these owners
pub record AreCrossedBy (history : List Call) (owners : List ℕ) (one other : Side) : Type 0 where
  pub key : List ℕ
  pub apart : one.write ≢ other.write
  pub first : IsSideBy history owners key one other
  pub second : IsSideBy history owners key other one

-- a rule gives no certificate for a key: by the puts that it chooses two writes of this key are crossed
pub record GivesNoneAt (history : List Call) (key : List ℕ) (rule : Rule) : Type 0 where
  pub owners : List ℕ
  pub hits : List ℕ
  pub chosen : List ℕ
  pub sure : AreSure history owners
  pub in_turn : AreInTurn history hits
  pub by_rule : ChoosesBy rule (CouldRead history) (times_at history) owners hits chosen
  pub one : Side
  pub other : Side
  pub crossed : AreCrossedBy history chosen one other
  pub of_key : crossed.key ≡ key

-- there is a key for which no rule gives a certificate
pub record HasStuckKey (history : List Call) : Type 0 where
  pub key : List ℕ
  pub none : All (GivesNoneAt history key) all_rules
