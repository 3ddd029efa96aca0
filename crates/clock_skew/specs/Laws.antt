-- Laws of the definitions alone.
use Rattle.std.specs.Prelude.{ℕ, List, All, map}
use Rattle.trace_file.specs.Calls.{IsCall}
use Rattle.trace_file.specs.declared.call.Call.{Call}
use Rattle.certificate_checker.specs.Acceptance.{IsAccepted}
use Rattle.clock_skew.specs.Skewed.{AreSeen}
use Rattle.clock_skew.specs.Widening.{widened}

-- A certificate that is accepted for a history as it was is accepted for it as it was recorded, with its calls widened by as much as
-- any stamp may be from the truth.
abbrev pub TruthStaysAccepted : Type 0
TruthStaysAccepted =
    (skew : ℕ) (truth seen : List Call) (certificate : List ℕ)
    → All IsCall seen
    → AreSeen skew truth seen
    → IsAccepted truth certificate
    → IsAccepted (map (widened skew) seen) certificate
