use Rattle.std.proofs.Common.{◌≡◌, ◌<◌, ◌^◌, take}
use Rattle.record_pages.specs.Digits.{digits_value}
use Rattle.record_pages.proofs.digits.digits_value.Given as goal

-- the value of the digits so far, each of which is worth at most a power of ten
abbrev pub invariant-loop-digit : goal.invariant-loop-digit
invariant-loop-digit l = (l.value ≡ digits_value (take l.digit-index l.digits)) × (l.value < 10 ^ l.digit-index)
