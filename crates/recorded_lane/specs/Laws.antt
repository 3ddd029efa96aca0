-- A law of a history whose calls stand in an order of theirs.
use Rattle.std.specs.Prelude.{◌≤◌, List, All, map, length}
use Rattle.std.specs.List.{range_with_len}
use Rattle.trace_file.specs.declared.call.Call.{Call}
use Rattle.certificate_checker.specs.Acceptance.{IsAccepted}
use Rattle.certificate_checker.specs.Deeds.{deed_of}
use Rattle.certificate_checker.specs.Latest.{IsLawful}
use Rattle.certificate_checker.specs.Orders.{Agrees}

-- A history is accepted with the positions 0, 1, 2 and so on for its certificate, if its calls stand in an order of
-- theirs, each no later at its start than at its end, and are lawful in it.
abbrev pub AcceptedInTurn : Type 0
AcceptedInTurn =
    (calls : List Call)
    → All (λ (call : Call). call.start ≤ call.end) calls
    → Agrees calls
    → IsLawful (map deed_of calls)
    → IsAccepted calls (range_with_len 0 (length calls))
