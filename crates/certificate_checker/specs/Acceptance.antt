-- When a history and a certificate are accepted.
use Rattle.std.specs.Prelude.{ℕ, ◌≤◌, List, All, map}
use Rattle.trace_file.specs.declared.call.Call.{Call}
use Rattle.certificate_checker.specs.Deeds.{deed_of}
use Rattle.certificate_checker.specs.Orders.{IsOrder, in_order, Agrees}
use Rattle.certificate_checker.specs.Latest.{IsLawful}

-- each call ends no earlier than it starts, and the certificate spells an order of them that agrees and is lawful
pub record IsAccepted (history : List Call) (certificate : List ℕ) : Type 0 where
  pub intervals : All (λ call. call.start ≤ call.end) history
  pub spelled : IsOrder history certificate
  pub agrees : Agrees (in_order history certificate)
  pub lawful : IsLawful (map deed_of (in_order history certificate))
