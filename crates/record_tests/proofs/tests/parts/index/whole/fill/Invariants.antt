use Rattle.std.proofs.Common.{◌≡◌, ◌<◌, ◌+◌, ◌*◌, All}
use Rattle.record_tests.proofs.tests.parts.index.whole.fill.Given as goal

-- each entry so far lies at the place of a lesser number
abbrev pub invariant-loop-number : goal.invariant-loop-number
invariant-loop-number l = (l.index.sets ≡ 65536) × All (λ e. e.place.segment * 4096 + e.place.page * 64 + e.place.slot < l.number) l.index.entries
