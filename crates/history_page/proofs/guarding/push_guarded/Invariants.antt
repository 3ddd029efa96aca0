use Rattle.std.proofs.Common.{◌≡◌, ◌++◌, take}
use Rattle.history_page.specs.Guarding.{guard}
use Rattle.history_page.proofs.guarding.push_guarded.Given as goal

abbrev pub invariant-loop-byte : goal.invariant-loop-byte
invariant-loop-byte l = l.page.items ≡ l.fn.page.items ++ guard (take l.byte-index l.byte-items)
