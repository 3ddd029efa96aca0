-- The caller has made its operations below the number, and was told as often that time is left.
use Rattle.std.proofs.Common.{◌≡◌, false, length}
use Rattle.serve_load.specs.Calls.{IsAt, standing}
use Rattle.serve_load.proofs.caller.Caller.make_each.Given as goal

abbrev pub invariant-loop-number : goal.invariant-loop-number
invariant-loop-number g l =
    (l.self.number ≡ l.fn.self.number) × (length l.self.words.items ≡ l.shared.load.now.keys)
    × IsAt l.shared.load.now l.fn.self.number l.fn.self.generator l.number l.refused (standing l.fn.self.words.items l.fn.self.seat) (standing l.self.words.items l.self.seat) l.self.generator
    × (l.limit.left ≡ l.number) × (l.limit.is_over ≡ false) × (l.limit.seconds ≡ l.shared.load.now.seconds)
