use Rattle.std.proofs.Common.{◌≡◌, ◌++◌, map, take}
use Rattle.std.specs.List.{concat}
use Rattle.memcached_text.proofs.writing.append_all.Given as goal

-- the pieces so far are appended
abbrev pub invariant-loop-piece : goal.invariant-loop-piece
invariant-loop-piece l = l.out.items ≡ l.initial.out.items ++ concat (map (λ p. p.now) (take l.piece-index l.pieces))
