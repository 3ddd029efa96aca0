-- Which call comes before which, and the orders of a history.
use Rattle.std.specs.Prelude.{◌≢◌, ℕ, ◌<◌, List, length, All, AllPairs, Contains, slice_get}
use Rattle.std.specs.List.{filter_map}
use Rattle.trace_file.specs.declared.call.Call.{Call}

-- a call precedes another when it ends before the other starts (Herlihy and Wing 1990); equal numbers do not order
abbrev pub Precedes : Call → Call → Type 0
Precedes a b = a.end < b.start

-- a certificate spells an order of a history: it lists each position of the history exactly once
pub record IsOrder (history : List Call) (certificate : List ℕ) : Type 0 where
  pub positions : All (λ p. p < length history) certificate
  pub each : (p : ℕ) → p < length history → Contains certificate p
  pub once : AllPairs (λ p q. p ≢ q) certificate

-- the calls of the history, in the certificate's order
abbrev pub in_order : List Call → List ℕ → List Call
in_order history certificate = filter_map (slice_get history) certificate

-- an order agrees with the recorded times: no call stands after one that it precedes
abbrev pub Agrees : List Call → Type 0
Agrees order = AllPairs (λ earlier later. ¬ Precedes later earlier) order
