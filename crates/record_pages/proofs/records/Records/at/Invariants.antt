use Rattle.std.proofs.Common.{◌≡◌, drop}
use Rattle.record_pages.proofs.records.Records.at.Given as goal

abbrev pub invariant-loop : goal.invariant-loop
invariant-loop l = l.self ≡ drop l.counter l.initial.self
