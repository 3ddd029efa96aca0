use Rattle.std.proofs.Common.{◌≡◌, ◌≤◌, ◌^◌, take}
use Rattle.memcached_text.specs.Numbers.{value_of, capped}
use Rattle.memcached_text.proofs.numbers.value.Given as goal

-- the value of the digits so far, or the first one that is too large
abbrev pub invariant-loop-digit : goal.invariant-loop-digit
invariant-loop-digit l = (l.value ≡ capped (value_of (take l.digit-index l.digits))) × (l.value ≤ 2 ^ 64)
