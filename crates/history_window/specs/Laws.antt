-- Laws of windows.
use Rattle.std.specs.Prelude.{ℕ, ◌≤◌, List, ◌++◌, All, AllPairs, map}
use Rattle.trace_file.specs.declared.call.Call.{Call}
use Rattle.certificate_checker.specs.Deeds.{deed_of}
use Rattle.certificate_checker.specs.Latest.{IsLawful}
use Rattle.certificate_checker.specs.Orders.{IsOrder, in_order}
use Rattle.certificate_finder.specs.declared.warmed.Warmed.{Warmed}
use Rattle.certificate_finder.specs.Spots.{AreOfOne}
use Rattle.certificate_finder.specs.Turns.{end_at, start_at}
use Rattle.certificate_finder.specs.Warming.{IsWarmed, warm_puts}
use Rattle.history_window.specs.Settled.{AreUnsettled}
use Rattle.history_window.specs.Standing.{Acceptable, MayFollow, StandFor, StartFrom}
use Rattle.history_window.specs.Windows.{IsWindow}

-- a line agrees with time key by key: of two calls of one key, neither a miss, the one that stands later does not end before the other starts
abbrev pub KeysAgree : List Call → List ℕ → Type 0
KeysAgree history line = AllPairs (λ earlier later. AreOfOne history earlier later → start_at history earlier ≤ end_at history later) line

-- a lawful line of all calls that agrees with time key by key makes a history acceptable (locality: Herlihy and Wing 1990)
abbrev pub LinesAreAcceptable : Type 0
LinesAreAcceptable =
    (history : List Call) (line : List ℕ)
    → IsOrder history line
    → All (λ call. call.start ≤ call.end) history
    → KeysAgree history line
    → IsLawful (map deed_of (in_order history line))
    → Acceptable history

-- the calls in the window of an acceptable history stand for it
abbrev pub WindowStands : Type 0
WindowStands =
    (bound : ℕ) (history : List Call) (kept : List ℕ)
    → IsWindow bound history kept
    → Acceptable history
    → StandFor bound (in_order history kept) history

-- the calls of an acceptable history that are no settled hits stand for it
abbrev pub UnsettledStand : Type 0
UnsettledStand =
    (bound : ℕ) (history : List Call) (kept : List ℕ)
    → AreUnsettled bound history kept
    → Acceptable history
    → StandFor bound (in_order history kept) history

-- what stands for a history stands for it when both have the same calls more, and to a later stamp
abbrev pub StandingGrows : Type 0
StandingGrows =
    (bound other : ℕ) (kept history more : List Call)
    → StandFor bound kept history
    → bound ≤ other
    → All (MayFollow bound kept) more
    → StandFor other (kept ++ more) (history ++ more)

-- what stands for calls that stand for others stands for those
abbrev pub StandingChains : Type 0
StandingChains =
    (bound : ℕ) (one other another : List Call)
    → StandFor bound one other
    → StandFor bound other another
    → StandFor bound one another

-- what stands for all calls so far goes on to do so: it gets the next calls, and if it is acceptable with them, it forgets all but a window and then the settled hits
abbrev pub ForgettingGoesOn : Type 0
ForgettingGoesOn =
    (bound other : ℕ) (history kept more : List Call) (window left : List ℕ)
    → StandFor bound kept history
    → bound ≤ other
    → All (MayFollow bound kept) more
    → Acceptable (kept ++ more)
    → IsWindow other (kept ++ more) window
    → AreUnsettled other (in_order (kept ++ more) window) left
    → StandFor other (in_order (in_order (kept ++ more) window) left) (history ++ more)

-- the next calls may follow acceptable calls, if they start at the stamp or later, and so may the puts that warming adds to both
abbrev pub WarmingFollows : Type 0
WarmingFollows =
    (bound : ℕ) (kept more : List Call) (warm : Warmed)
    → Acceptable kept
    → StartFrom bound more
    → IsWarmed (kept ++ more) warm
    → All (MayFollow bound kept) (more ++ warm_puts (kept ++ more) warm.hits.items)
