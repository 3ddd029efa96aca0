-- Laws of warmed histories.
use Rattle.std.specs.Prelude.{◌≡◌, ◌≢◌, ℕ, ◌≤◌, List, ◌++◌, All, AllPairs, Contains, Some, map, slice_get}
use Rattle.trace_file.specs.declared.act.Act.TheVariants.{Put}
use Rattle.trace_file.specs.declared.call.Call.{Call}
use Rattle.certificate_checker.specs.Acceptance.{IsAccepted}
use Rattle.certificate_checker.specs.Deeds.{Deed, deed_of}
use Rattle.certificate_checker.specs.Latest.{IsLawful}
use Rattle.certificate_checker.specs.Orders.{Agrees, IsOrder, in_order}
use Rattle.certificate_finder.specs.declared.warmed.Warmed.{Warmed}
use Rattle.certificate_finder.specs.Reads.{HasNone}
use Rattle.certificate_finder.specs.Warming.{IsUnput, IsWarmed, PutsAt, warm_puts}

-- a history that is accepted stays as it is
abbrev pub AcceptedStaysCold : Type 0
AcceptedStaysCold =
    (history : List Call) (warm : Warmed) (certificate : List ℕ)
    → IsWarmed history warm
    → IsAccepted history certificate
    → warm.history ≡ history

-- the puts that are added are of different keys, each of a key of which some hit reads what nobody put
abbrev pub KeysAreWarmedOnce : Type 0
KeysAreWarmedOnce =
    (history : List Call) (warm : Warmed)
    → IsWarmed history warm
    → AllPairs (λ one other. one.key ≢ other.key) (warm_puts history warm.hits.items)
    × All (λ put. (hit : ℕ) × (is : IsUnput history hit) × (is.call.key ≡ put.key)) (warm_puts history warm.hits.items)

-- a hit that can have read no put, although some put has its key and its value, can have read none once the history is warmed
abbrev pub StaleStaysWrong : Type 0
StaleStaysWrong =
    (history : List Call) (warm : Warmed) (hit put : ℕ) (call : Call) (none : HasNone history hit)
    → IsWarmed history warm
    → slice_get history put ≡ Some call
    → PutsAt none.call.key none.value call
    → HasNone warm.history hit

-- no put of a history puts again what was put by earlier deeds
abbrev pub AreNew : List Deed → List Call → Type 0
AreNew past history =
    (deed : Deed) (value : List ℕ) (expires : ℕ)
    → Contains past deed
    → deed.act ≡ Put value expires
    → All (λ call. ¬ PutsAt deed.key value call) history

-- a certificate is accepted for a history whose cache has seen earlier deeds: these are done before all calls
pub record IsAcceptedAfter (past : List Deed) (history : List Call) (certificate : List ℕ) : Type 0 where
  pub intervals : All (λ call. call.start ≤ call.end) history
  pub spelled : IsOrder history certificate
  pub agrees : Agrees (in_order history certificate)
  pub lawful : IsLawful (past ++ map deed_of (in_order history certificate))

-- if a history is accepted after some deeds whose values none of its puts puts again, then it is accepted once it is warmed
abbrev pub PastStaysAccepted : Type 0
PastStaysAccepted =
    (past : List Deed) (history : List Call) (certificate : List ℕ) (warm : Warmed)
    → AreNew past history
    → IsAcceptedAfter past history certificate
    → IsWarmed history warm
    → (other : List ℕ) × IsAccepted warm.history other
