use Rattle.certificate_finder.specs.Deciding.{IsMixOf}
use Rattle.certificate_finder.specs.Lining.{positions_in}
use Rattle.certificate_finder.proofs.deciding.mixed.Given as goal

-- the rules so far were tried
abbrev pub invariant-loop-index : goal.invariant-loop-index
invariant-loop-index l = IsMixOf l.steps l.owners (positions_in l.hits) l.index l.mix
