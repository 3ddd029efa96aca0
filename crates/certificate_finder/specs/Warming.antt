-- Histories whose cache was filled before they begin.
use Rattle.std.specs.Prelude.{◌≡◌, ℕ, ◌⊎◌, List, ◌++◌, All, length, map, slice_get, Some}
use Rattle.std.specs.List.{filter_map}
use Rattle.record_pages.specs.Expiry.{never}
use Rattle.trace_file.specs.Calls.{value_of}
use Rattle.trace_file.specs.declared.act.Act.TheVariants.{Put, Hit}
use Rattle.trace_file.specs.declared.call.Call.{Call}
use Rattle.certificate_checker.specs.Deeds.{deed_of}
use Rattle.certificate_checker.specs.Latest.{Writes}
use Rattle.certificate_checker.specs.Orders.{Precedes}
use Rattle.certificate_finder.specs.declared.warmed.Warmed.{Warmed}
use Rattle.certificate_finder.specs.Choosing.{IsEarlierBy}
use Rattle.certificate_finder.specs.Lists.{AreAllBelow}
use Rattle.certificate_finder.specs.Turns.{start_at}

-- a call puts this value at this key
pub record PutsAt (key value : List ℕ) (call : Call) : Type 0 where
  pub one_key : call.key ≡ key
  pub expires : ℕ
  pub is : call.act ≡ Put value expires

-- the call at a position is a hit of a value that nobody put: no put of the history has its key and its value
pub record IsUnput (history : List Call) (hit : ℕ) : Type 0 where
  pub call : Call
  pub value : List ℕ
  pub moment : ℕ
  pub at : slice_get history hit ≡ Some call
  pub is : call.act ≡ Hit value moment
  pub unput : All (λ other. ¬ PutsAt call.key value other) history

-- the value of the hit at a position is taken as there from the start: nobody put it, no write of its key ended before the hit started, and of the hits of its key whose values nobody put it starts first, of those that start at one stamp it is the first of the history
pub record IsWarm (history : List Call) (hit : ℕ) : Type 0 where
  pub unput : IsUnput history hit
  pub unwritten : All (λ other. Writes (deed_of other) unput.call.key → ¬ Precedes other unput.call) history
  pub first : (other : ℕ) (is : IsUnput history other) → is.call.key ≡ unput.call.key → (other ≡ hit) ⊎ IsEarlierBy (start_at history) hit other

-- the caller of the puts that are added
abbrev pub warm_caller : ℕ
warm_caller = 65535

-- the put of what a call read or put: it starts and ends at 0, and never expires
abbrev pub warm_put : Call → Call
warm_put call = record { caller = warm_caller; start = 0; end = 0; key = call.key; act = Put (value_of call.act) never }

-- the puts of the values of the hits at these positions
abbrev pub warm_puts : List Call → List ℕ → List Call
warm_puts history hits = map warm_put (filter_map (slice_get history) hits)

-- a history is warmed: all values that are taken as there from the start are put by calls that are added after the others
pub record IsWarmed (history : List Call) (warm : Warmed) : Type 0 where
  pub hits : AreAllBelow (IsWarm history) (length history) warm.hits.items
  pub calls : warm.history ≡ history ++ warm_puts history warm.hits.items
