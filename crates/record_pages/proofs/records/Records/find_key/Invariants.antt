use Rattle.std.proofs.Common.{◌≡◌, ◌+◌, length}
use Rattle.record_pages.specs.Looking.{first_from}
use Rattle.record_pages.proofs.records.Records.find_key.Given as goal

abbrev pub invariant-loop-slot : goal.invariant-loop-slot
invariant-loop-slot l = record {
  rest : first_from l.slot l.key l.self ≡ first_from 0 l.key l.initial.self;
  left : l.slot + length l.self ≡ length l.initial.self;
}
