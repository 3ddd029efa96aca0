use Rattle.std.proofs.Common.{◌≡◌, eqb, take}
use Rattle.record_pages.specs.Reading.{all_zero}
use Rattle.record_pages.proofs.front.is_zero.Given as goal

abbrev pub invariant-loop-byte : goal.invariant-loop-byte
invariant-loop-byte l = eqb l.bits 0 ≡ all_zero (take l.byte-index l.bytes)
