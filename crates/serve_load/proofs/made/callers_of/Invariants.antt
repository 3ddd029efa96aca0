-- The callers so far are numbered in order, and each is one of the load's.
use Rattle.std.proofs.Common.{◌≡◌, All, [], map}
use Rattle.serve_load.specs.Calls.{IsOneOf}
use Rattle.serve_load.specs.Tallies.{upto}
use Rattle.serve_load.proofs.made.callers_of.Given as goal

abbrev pub invariant-loop-number : goal.invariant-loop-number
invariant-loop-number g l =
    (map (λ c. c.number) l.callers.items ≡ upto l.number) × All (λ c. IsOneOf l.load c.number c.generator c.words.items c.seat) l.callers.items
