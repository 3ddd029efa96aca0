use Rattle.std.proofs.Common.{◌≡◌, drop}
use Rattle.memcached_text.specs.Numbers.{are_digits}
use Rattle.memcached_text.proofs.numbers.are_digits.Given as goal

-- the bytes so far are digits
abbrev pub invariant-loop-byte : goal.invariant-loop-byte
invariant-loop-byte l = are_digits l.bytes ≡ are_digits (drop l.byte-index l.bytes)
