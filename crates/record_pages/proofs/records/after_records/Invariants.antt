use Rattle.std.proofs.Common.{◌≡◌, ◌-◌}
use Rattle.record_pages.proofs.AfterLaws.{behind}
use Rattle.record_pages.proofs.records.after_records.Given as goal

abbrev pub invariant-loop : goal.invariant-loop
invariant-loop l = behind l.form (l.count - l.counter) l.rest ≡ behind l.form l.count l.bytes
